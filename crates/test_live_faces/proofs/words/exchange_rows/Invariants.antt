use Rattle.std.proofs.Common.{◌≡◌}
use Rattle.test_live_faces.proofs.words.exchange_rows.Given as goal

abbrev pub invariant-loop-key : goal.invariant-loop-key
invariant-loop-key g l = l.guard.book ≡ l.map
