use Rattle.live_pool.specs.Pools.{AreFor}
use Rattle.live_pool.proofs.pool.no_free_lists.Given as goal

abbrev pub invariant-loop : goal.invariant-loop
invariant-loop l = AreFor l.fn.map l.free_lists.items
