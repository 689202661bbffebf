-- Both guards are of this map.
use Rattle.std.proofs.Common.{◌≡◌}
use Rattle.test_share_guards.proofs.tests.threads.hands_over.Given as goal

abbrev pub invariant-loop-i : goal.invariant-loop-i
invariant-loop-i g l = (l.one.table ≡ l.map) × (l.two.table ≡ l.map)
