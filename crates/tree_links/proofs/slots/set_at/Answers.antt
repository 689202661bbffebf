use Rattle.std.proofs.Common.{sym}
use Rattle.node_table.proofs.KindLaws.{on_err}
use Rattle.tree_links.proofs.PayloadLaws.{seven_at}
use Rattle.tree_links.proofs.SlotLaws.{node_there, set_same, sets, is_full}
use Rattle.tree_links.proofs.slots.set_at.Goals as goal

pub set_payload-requires : goal.set_payload-requires
set_payload-requires g c =
    let f = g.N.LinkedNode.node in
    record { leaf = seven_at _ c.args.slot (f c.in-Some.node.now) c.requires (node_there f c.args.nodes.now.slots c.args.slot c.in-Some.node.now (sym c.in-Some.ensures.value)) }

pub returns-clause-set : goal.returns-clause-set
returns-clause-set g c =
    let e = c.set_payload.ensures in
    sets g.N.LinkedNode.node c.args.nodes.now.slots c.args.slot c.in-Some.node.now c.set_payload.new.self (sym c.in-Some.ensures.value) c.args.byte c.base.ensures.ascending
    c.args.payload c.set_payload.result e.before e.room e.after

pub returns-clause-full : goal.returns-clause-full
returns-clause-full g c =
    let e = c.set_payload.ensures in
    is_full g.N.LinkedNode.node c.args.nodes.now.slots c.args.slot c.in-Some.node.now c.set_payload.new.self (sym c.in-Some.ensures.value) c.args.byte c.base.ensures.ascending
    c.set_payload.result e.absent e.full

pub returns-clause-same : goal.returns-clause-same
returns-clause-same g c =
    on_err c.set_payload.result
    (set_same g.N.LinkedNode.node c.args.nodes.now.slots c.args.slot c.in-Some.node.now c.set_payload.new.self (sym c.in-Some.ensures.value))
    c.set_payload.ensures.same
