use Rattle.live_pool.specs.Pools.{AreFor}
use Rattle.live_pool.proofs.pool.free_slots.Given as goal

abbrev pub invariant-loop : goal.invariant-loop
invariant-loop l = AreFor l.fn.map l.slots.items
