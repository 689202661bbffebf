use Rattle.std.proofs.Common.{sym}
use Rattle.spec_node.specs.declared.child.Child.TheVariants.{Node}
use Rattle.node_table.proofs.KindLaws.{lookup-mapped_some, lookup-mapped_none}
use Rattle.node_base.specs.inner.Sorted.{pairs}
use Rattle.node_rows.proofs.inner_row.get_child.Goals as goal

pub returns-in-Some : goal.returns-in-Some
returns-in-Some g c = sym (lookup-mapped_some (λ child. Node child) (pairs c.args.head.now.keys c.args.row.now.items) c.args.byte _ (sym c.in-Some.ensures.found))

pub returns-in-None : goal.returns-in-None
returns-in-None g c = sym (lookup-mapped_none (λ child. Node child) (pairs c.args.head.now.keys c.args.row.now.items) c.args.byte (sym c.in-None.ensures.found))
