use Rattle.live_nodes.proofs.Begins.{admits}
use Rattle.live_growth.proofs.map.Congee.usage.Goals as goal

pub enter-requires : goal.enter-requires
enter-requires c = admits
