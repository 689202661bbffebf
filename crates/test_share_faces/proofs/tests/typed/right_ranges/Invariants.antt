-- The guard is one of this map.
use Rattle.std.proofs.Common.{◌≡◌}
use Rattle.test_share_faces.proofs.tests.typed.right_ranges.Given as goal

abbrev pub invariant-loop-start : goal.invariant-loop-start
invariant-loop-start g l = l.guard.table ≡ l.map
