use Rattle.live_nodes.proofs.Begins.{admits}
use Rattle.live_growth.proofs.Ready.{ready_new}
use Rattle.live_growth.proofs.map.Congee.pin.Goals as goal

pub enter-requires : goal.enter-requires
enter-requires c = admits

pub invariant_of-result : goal.invariant_of-result
invariant_of-result c = ready_new c.enter.result.view c.none.result c.none-2.result c.none-3.result c.enter.ensures.view c.none.ensures c.none-3.ensures
