use Rattle.std.proofs.Common.{sym}
use Rattle.tree_links.proofs.PayloadLaws.{seven_at}
use Rattle.tree_links.proofs.SlotLaws.{node_there, takes_out, is_absent, takes_none}
use Rattle.tree_links.proofs.slots.take_payload_at.Goals as goal

pub take_payload-requires : goal.take_payload-requires
take_payload-requires g c =
    let f = g.N.LinkedNode.node in
    record { leaf = seven_at _ c.args.slot (f c.in-Some.node.now) c.requires (node_there f c.args.nodes.now.slots c.args.slot c.in-Some.node.now (sym c.in-Some.ensures.value)) }

pub returns-clause-takes : goal.returns-clause-takes
returns-clause-takes g c =
    let e = c.take_payload.ensures in
    takes_out g.N.LinkedNode.node c.args.nodes.now.slots c.args.slot c.in-Some.node.now c.take_payload.new.self (sym c.in-Some.ensures.value) c.args.byte c.base.ensures.ascending
    c.take_payload.result e.before e.after

pub returns-clause-none : goal.returns-clause-none
returns-clause-none g c =
    is_absent g.N.LinkedNode.node c.args.nodes.now.slots c.args.slot c.in-Some.node.now c.take_payload.new.self (sym c.in-Some.ensures.value) c.args.byte c.base.ensures.ascending
    c.take_payload.result c.take_payload.ensures.before

pub returns-clause-same : goal.returns-clause-same
returns-clause-same g c =
    let e = c.take_payload.ensures in
    takes_none g.N.LinkedNode.node c.args.nodes.now.slots c.args.slot c.in-Some.node.now c.take_payload.new.self (sym c.in-Some.ensures.value) c.args.byte c.base.ensures.ascending
    c.take_payload.result e.before e.after
