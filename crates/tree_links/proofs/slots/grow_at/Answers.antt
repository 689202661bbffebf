use Rattle.std.proofs.Common.{rules, ◌∙◌, ◌+◌, Some, length, ap, sym, subst}
use Rattle.node_base.specs.Form.{Fits}
use Rattle.tree_links.specs.LinkNode.{LinkNode}
use Rattle.tree_links.proofs.SlotLaws.{none_there, node_there, set_there, set_others, set_same}
use Rattle.tree_links.proofs.slots.grow_at.Goals as goal

pub unreachable-requires : goal.unreachable-requires
unreachable-requires g c =
    let none = none_there g.N.LinkedNode.node c.args.nodes.now.slots c.args.slot (sym c.in_default.ensures.value) in
    let has = c.requires in
    let clash = rw none at has in cc

pub returns-clause-ok : goal.returns-clause-ok
returns-clause-ok g c =
    let f = g.N.LinkedNode.node in
    let s = c.args.nodes.now.slots in
    let here = sym c.in-Some.ensures.value in
    let e = c.in_ok-grow.ensures in
    record {
      node = f c.in-Some.node.now;
      here = node_there f s c.args.slot c.in-Some.node.now here;
      there = set_there f s c.args.slot c.in-Some.node.now c.grow.new.self here ∙ ap (λ x. Some x) e.ok;
      room = subst (λ (n : LinkNode g.row.P.Denot). Fits n.form (length n.links + 1)) e.ok e.room;
      others = set_others f s c.args.slot c.in-Some.node.now c.grow.new.self here;
    }

pub returns-in_err-grow-clause-err : goal.returns-in_err-grow-clause-err
returns-in_err-grow-clause-err g c =
    let same = set_same g.N.LinkedNode.node c.args.nodes.now.slots c.args.slot c.in-Some.node.now c.grow.new.self (sym c.in-Some.ensures.value) c.in_err-grow.ensures.err in
    search (rules, same)
