use Rattle.std.proofs.Common.{◌≡◌}
use Rattle.test_live_faces.proofs.writers.wrong_floors.Given as goal

abbrev pub invariant-loop : goal.invariant-loop
invariant-loop g l = l.guard.book ≡ l.map

abbrev pub invariant-loop-key : goal.invariant-loop-key
invariant-loop-key g l = l.guard.book ≡ l.map
