use Rattle.std.proofs.Common.{sym, ap, ◌∙◌}
use Rattle.spec_node.specs.declared.child.Child.TheVariants.{Payload}
use Rattle.node_table.specs.inner.Kinds.{mapped}
use Rattle.node_table.proofs.KindLaws.{between-mapped}
use Rattle.node_table.proofs.kinds.LeafInTable.children_between.Goals as goal

pub returns-clause-children : goal.returns-clause-children
returns-clause-children g c = ap (mapped (λ v. Payload v)) c.children_of.ensures ∙ sym (between-mapped (λ v. Payload v) (g.H.Head.children c.args.self.now.head c.args.row.now) c.args.from c.args.to)
