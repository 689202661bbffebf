use Rattle.std.proofs.Common.{sym, ap, ◌∙◌}
use Rattle.spec_node.specs.declared.child.Child.TheVariants.{Node}
use Rattle.node_table.specs.inner.Kinds.{mapped}
use Rattle.node_table.proofs.KindLaws.{between-mapped}
use Rattle.node_base.specs.inner.Sorted.{pairs}
use Rattle.node_rows.proofs.inner_row.children_between.Goals as goal

pub returns-clause-children : goal.returns-clause-children
returns-clause-children g c = ap (mapped (λ child. Node child)) c.children_of.ensures ∙ sym (between-mapped (λ child. Node child) (pairs c.args.head.now.keys c.args.row.now.items) c.args.from c.args.to)
