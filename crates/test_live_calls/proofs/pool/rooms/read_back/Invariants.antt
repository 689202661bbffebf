use Rattle.std.proofs.Common.{◌≡◌}
use Rattle.test_live_calls.proofs.pool.rooms.read_back.Given as goal

abbrev pub invariant-loop-turn : goal.invariant-loop-turn
invariant-loop-turn l = l.guard.book ≡ l.map
