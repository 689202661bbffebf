use Rattle.live_pool.specs.Pools.{AreOf}
use Rattle.live_pool.proofs.pool.Pool.add_list.Given as goal

abbrev pub invariant-loop-at : goal.invariant-loop-at
invariant-loop-at l = AreOf l.fn.self l.left.guards.items
