use Rattle.std.proofs.Common.{◌≡◌}
use Rattle.test_live_faces.proofs.snapshots.torn.Given as goal

-- the guard is one of this map
abbrev pub invariant-loop : goal.invariant-loop
invariant-loop g l = l.guard.book ≡ l.map
