use Rattle.std.proofs.Common.{◌≡◌}
use Rattle.test_live_calls.proofs.tests.parted.Given as goal

abbrev pub invariant-loop-number : goal.invariant-loop-number
invariant-loop-number l = l.guard.book ≡ l.map
