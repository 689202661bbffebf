use Rattle.node_base.specs.declared.base_node.NodeType.TheVariants.{N4}
use Rattle.live_growth.proofs.free_nodes.FreeNodes.smallest.Goals as goal

pub returns-else-self-ne0 : goal.returns-else-self-ne0
returns-else-self-ne0 c = λ v h some. h.0 N4 some
