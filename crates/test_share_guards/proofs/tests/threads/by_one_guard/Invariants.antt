-- The guard is one of this map.
use Rattle.std.proofs.Common.{◌≡◌}
use Rattle.test_share_guards.proofs.tests.threads.by_one_guard.Given as goal

abbrev pub invariant-loop-i : goal.invariant-loop-i
invariant-loop-i g l = l.guard.table ≡ l.map
