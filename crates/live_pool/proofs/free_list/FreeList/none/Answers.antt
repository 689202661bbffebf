use Rattle.live_nodes.proofs.Begins.{admits}
use Rattle.live_pool.proofs.free_list.FreeList.none.Goals as goal

pub enter-requires : goal.enter-requires
enter-requires c = admits
