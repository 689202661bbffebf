use Rattle.spec_node.specs.declared.child.Child.TheVariants.{Payload}
use Rattle.node_table.proofs.KindLaws.{lookup-mapped_none, lookup-mapped_some, put_into}
use Rattle.node_table.proofs.kinds.LeafInTable.exchange.Goals as goal

pub returns-in-Ok-clause-before : goal.returns-in-Ok-clause-before
returns-in-Ok-clause-before g c = lookup-mapped_some (λ v. Payload v) (g.H.Head.children c.args.self.now.head c.args.row.now) c.args.byte c.in-Ok.before c.in-Ok.ensures.before

pub returns-in-Ok-clause-after : goal.returns-in-Ok-clause-after
returns-in-Ok-clause-after g c =
    rw c.in-Payload.is
    (put_into {P = g.row.P.Denot} {C = g.row.C.Denot} (λ v. Payload v) _ _ _ _ (g.H.Head.children c.args.self.now.head c.args.row.now) _ c.args.byte c.in-Payload.payload c.in-Ok.ensures.form c.in-Ok.ensures.prefix c.in-Ok.ensures.children)

pub returns-in-Err-clause-absent : goal.returns-in-Err-clause-absent
returns-in-Err-clause-absent g c = lookup-mapped_none (λ v. Payload v) (g.H.Head.children c.args.self.now.head c.args.row.now) c.args.byte c.in-Err.ensures.absent
