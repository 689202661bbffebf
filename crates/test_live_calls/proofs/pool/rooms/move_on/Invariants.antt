use Rattle.std.proofs.Common.{◌≡◌}
use Rattle.test_live_calls.proofs.pool.rooms.move_on.Given as goal

abbrev pub invariant-loop-step : goal.invariant-loop-step
invariant-loop-step l = l.guard.book ≡ l.map
