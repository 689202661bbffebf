use Rattle.std.proofs.Common.{◌≡◌}
use Rattle.test_live_calls.proofs.pool.rooms.come_and_go.Given as goal

abbrev pub invariant-loop-leaf : goal.invariant-loop-leaf
invariant-loop-leaf l = l.guard.book ≡ l.map

abbrev pub invariant-loop-leaf-2 : goal.invariant-loop-leaf-2
invariant-loop-leaf-2 l = l.guard.book ≡ l.map
