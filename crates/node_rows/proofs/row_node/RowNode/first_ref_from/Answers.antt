use Rattle.std.proofs.Common.{arith}
use Rattle.spec_map.proofs.RangeLaws.{between-crossed}
use Rattle.node_rows.proofs.row_node.RowNode.first_ref_from.Goals as goal

pub returns-then-from-gt255-clause-none : goal.returns-then-from-gt255-clause-none
returns-then-from-gt255-clause-none g c = between-crossed c.args.from 256 c.args.self.now.children (omega arith)
