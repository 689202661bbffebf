use Rattle.std.proofs.Common.{◌≡◌}
use Rattle.test_live_calls.proofs.calls.is_gone.Given as goal

abbrev pub invariant-loop : goal.invariant-loop
invariant-loop l = l.guard.book ≡ l.map
