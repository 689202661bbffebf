use Rattle.std.proofs.Common.{rules}
use Rattle.node_base.proofs.base_node.NodeSize.bytes.Goals as goal

pub returns-in-N48 : goal.returns-in-N48
returns-in-N48 c = search rules
