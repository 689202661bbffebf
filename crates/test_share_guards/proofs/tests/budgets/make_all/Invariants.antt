-- The guard is one of this map.
use Rattle.std.proofs.Common.{◌≡◌}
use Rattle.test_share_guards.proofs.tests.budgets.make_all.Given as goal

abbrev pub invariant-loop-call : goal.invariant-loop-call
invariant-loop-call g l = l.guard.table ≡ l.map

abbrev pub invariant-loop-call-2 : goal.invariant-loop-call-2
invariant-loop-call-2 g l = l.guard.table ≡ l.map
