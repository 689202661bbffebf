use Rattle.std.proofs.Common.{◌≡◌}
use Rattle.test_live_faces.proofs.chains.rises.Given as goal

abbrev pub invariant-loop-value : goal.invariant-loop-value
invariant-loop-value g l = l.guard.book ≡ l.map
