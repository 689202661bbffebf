use Rattle.spec_node.specs.declared.child.Child.TheVariants.{Payload}
use Rattle.node_table.proofs.KindLaws.{mapped-absent, fits_here, put_into}
use Rattle.node_table.proofs.kinds.LeafInTable.insert.Goals as goal

pub insert-requires-clause-absent : goal.insert-requires-clause-absent
insert-requires-clause-absent g c = mapped-absent (λ v. Payload v) (g.H.Head.children c.args.self.now.head c.args.row.now) c.args.byte c.requires.absent

pub insert-requires-clause-room : goal.insert-requires-clause-room
insert-requires-clause-room g c = fits_here (λ v. Payload v) _ (g.H.Head.children c.args.self.now.head c.args.row.now) 1 c.requires.room

pub returns-clause-after : goal.returns-clause-after
returns-clause-after g c =
    rw c.in-Payload.is
    (put_into {P = g.row.P.Denot} {C = g.row.C.Denot} (λ v. Payload v) _ _ _ _ (g.H.Head.children c.args.self.now.head c.args.row.now) _ c.args.byte c.in-Payload.payload c.insert.ensures.form c.insert.ensures.prefix c.insert.ensures.children)
