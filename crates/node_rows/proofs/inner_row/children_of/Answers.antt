use Rattle.std.proofs.Common.{sym}
use Rattle.spec_map.proofs.RangeLaws.{between-crossed}
use Rattle.node_base.specs.inner.Sorted.{pairs}
use Rattle.node_rows.proofs.inner_row.children_of.Goals as goal

pub returns-then-from-to : goal.returns-then-from-to
returns-then-from-to g c = sym (between-crossed c.args.from c.args.to (pairs c.args.head.now.keys c.args.row.now.items) c.if-from-to.true)
