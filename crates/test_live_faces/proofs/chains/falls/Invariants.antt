use Rattle.std.proofs.Common.{◌≡◌}
use Rattle.test_live_faces.proofs.chains.falls.Given as goal

abbrev pub invariant-loop : goal.invariant-loop
invariant-loop g l = (goal.iterator-loop g).can_next l.iterator' × (goal.iterator-loop g).is_finite l.iterator' × (l.guard.book ≡ l.map)
