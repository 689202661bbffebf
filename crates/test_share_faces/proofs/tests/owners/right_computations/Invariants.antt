-- The guard is one of this map.
use Rattle.std.proofs.Common.{◌≡◌}
use Rattle.test_share_faces.proofs.tests.owners.right_computations.Given as goal

abbrev pub invariant-loop-key : goal.invariant-loop-key
invariant-loop-key g l = l.guard.table ≡ l.map
