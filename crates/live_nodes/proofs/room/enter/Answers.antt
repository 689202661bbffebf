use Rattle.live_nodes.proofs.Steps.{may_enter}
use Rattle.live_nodes.proofs.room.enter.Goals as goal

pub enter-requires : goal.enter-requires
enter-requires g c = may_enter g.L.NodeLaw.root g.L.NodeLaw.holds g.L.NodeLaw.first c.requires
