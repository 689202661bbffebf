use Rattle.std.proofs.Common.{◌≡◌}
use Rattle.test_live_calls.proofs.pool.rooms.by_another.Given as goal

abbrev pub invariant-loop-leaf : goal.invariant-loop-leaf
invariant-loop-leaf l = l.guard.book ≡ l.map
