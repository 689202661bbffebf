use Rattle.std.proofs.Common.{sym}
use Rattle.spec_node.specs.declared.child.Child.TheVariants.{Payload}
use Rattle.node_table.proofs.KindLaws.{lookup-mapped_some, lookup-mapped_none}
use Rattle.node_table.proofs.kinds.LeafInTable.get_child.Goals as goal

pub returns-in-Some : goal.returns-in-Some
returns-in-Some g c = sym (lookup-mapped_some (λ v. Payload v) (g.H.Head.children c.args.self.now.head c.args.row.now) c.args.byte _ (sym c.in-Some.ensures.found))

pub returns-in-None : goal.returns-in-None
returns-in-None g c = sym (lookup-mapped_none (λ v. Payload v) (g.H.Head.children c.args.self.now.head c.args.row.now) c.args.byte (sym c.in-None.ensures.found))
