use Rattle.node_stats.proofs.VisitLaws.{visits-node}
use Rattle.node_stats.proofs.laws.levels_below_a_node.Goals as goal

pub returns : goal.returns
returns c = visits-node
