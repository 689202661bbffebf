use Rattle.std.proofs.Common.{rules}
use Rattle.node_base.proofs.base_node.BaseNode.prefix.Goals as goal

pub returns-clause-bytes : goal.returns-clause-bytes
returns-clause-bytes c = search rules
