use Rattle.std.proofs.Common.{◌≡◌}
use Rattle.test_live_faces.proofs.descents.wrong_pages.Given as goal

abbrev pub invariant-loop : goal.invariant-loop
invariant-loop g l = l.guard.book ≡ l.map
