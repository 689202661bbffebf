use Rattle.std.proofs.Common.{refl}
use Rattle.node_base.specs.declared.base_node.NodeType.TheVariants.{N4, N16, N48, N256}
use Rattle.live_growth.proofs.FreeNodes.{free_nodes_none}
use Rattle.live_growth.proofs.free_nodes.FreeNodes.none.Goals as goal

pub returns : goal.returns
returns c = λ v. free_nodes_none v _ (elim [ N4 ↦ refl | N16 ↦ refl | N48 ↦ refl | N256 ↦ refl ]) refl refl
