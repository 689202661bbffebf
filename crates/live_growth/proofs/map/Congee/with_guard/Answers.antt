use Rattle.live_nodes.proofs.Begins.{admits, begins}
use Rattle.live_growth.proofs.Ready.{ready_new}
use Rattle.live_growth.proofs.map.Congee.with_guard.Goals as goal

pub with_limit-requires-clause-law : goal.with_limit-requires-clause-law
with_limit-requires-clause-law c = begins

pub enter-seat-requires : goal.enter-seat-requires
enter-seat-requires c = admits

pub reserve-requires-clause-ready : goal.reserve-requires-clause-ready
reserve-requires-clause-ready c = ready_new c.enter-seat.result.view c.none.result c.none-2.result c.none-3.result c.enter-seat.ensures.view c.none.ensures c.none-3.ensures
