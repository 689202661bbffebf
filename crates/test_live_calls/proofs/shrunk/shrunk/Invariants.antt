use Rattle.std.proofs.Common.{◌≡◌}
use Rattle.test_live_calls.proofs.shrunk.shrunk.Given as goal

abbrev pub invariant-loop-left : goal.invariant-loop-left
invariant-loop-left l = l.guard.book ≡ l.map
