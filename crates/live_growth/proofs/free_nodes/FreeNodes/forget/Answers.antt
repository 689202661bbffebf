use Rattle.node_base.specs.declared.base_node.NodeType.TheVariants.{N4, N16, N48, N256}
use Rattle.live_growth.proofs.FreeNodes.{free_nodes_fewer}
use Rattle.live_growth.proofs.free_nodes.FreeNodes.forget.Goals as goal

pub returns-clause-left : goal.returns-clause-left
returns-clause-left c = λ v h. free_nodes_fewer v c.args.self.now _ (elim [ N4 ↦ c.other_than-self.ensures.none | N16 ↦ c.other_than-self-2.ensures.none | N48 ↦ c.other_than-self-3.ensures.none | N256 ↦ c.other_than-self-4.ensures.none ]) c.other_than-self-5.ensures.none c.other_than-self-6.ensures.none h
