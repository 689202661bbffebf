use Rattle.std.proofs.Common.{◌+◌, subst, sym}
use Rattle.node_base.specs.Form.{Fits}
use Rattle.spec_node.specs.declared.child.Child.TheVariants.{Payload}
use Rattle.node_table.proofs.KindLaws.{length-mapped, lookup-mapped, lookup-mapped_none, fits_here, put_into, if_ok, on_ok, on_err}
use Rattle.node_table.proofs.kinds.LeafHasPayloads.set_payload.Goals as goal

pub returns-clause-before : goal.returns-clause-before
returns-clause-before g c =
    if_ok c.set_child.result (λ before. lookup-mapped (λ v. Payload v) (g.H.Head.children c.args.self.now.head c.args.row.now) c.args.byte before) c.set_child.ensures.before

pub returns-clause-room : goal.returns-clause-room
returns-clause-room g c =
    let es = g.H.Head.children c.args.self.now.head c.args.row.now in
    if_ok c.set_child.result
    (λ before room none. subst (λ k. Fits (g.H.Head.form c.args.self.now.head) (k + 1)) (sym (length-mapped (λ v. Payload v) es)) (room none))
    c.set_child.ensures.room

pub returns-clause-after : goal.returns-clause-after
returns-clause-after g c =
    on_ok c.set_child.result
    (put_into {P = g.row.P.Denot} {C = g.row.C.Denot} (λ v. Payload v) _ _ _ _ (g.H.Head.children c.args.self.now.head c.args.row.now) _ c.args.byte c.args.payload c.set_child.ensures.form c.set_child.ensures.prefix)
    c.set_child.ensures.after

pub returns-clause-absent : goal.returns-clause-absent
returns-clause-absent g c =
    on_err c.set_child.result (lookup-mapped_none (λ v. Payload v) (g.H.Head.children c.args.self.now.head c.args.row.now) c.args.byte) c.set_child.ensures.absent

pub returns-clause-full : goal.returns-clause-full
returns-clause-full g c =
    on_err c.set_child.result
    (λ full fits. full (fits_here (λ v. Payload v) _ (g.H.Head.children c.args.self.now.head c.args.row.now) 1 fits))
    c.set_child.ensures.full
