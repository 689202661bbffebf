use Rattle.std.proofs.Common.{rules, ◌∙◌, Some, length, ap, sym, subst}
use Rattle.node_base.specs.Form.{Fits, smaller_form}
use Rattle.tree_links.specs.LinkNode.{LinkNode}
use Rattle.tree_links.proofs.SlotLaws.{node_there, not_none, same_node, set_there, set_others, set_same}
use Rattle.tree_links.proofs.slots.shrink_at.Goals as goal

pub unreachable-requires : goal.unreachable-requires
unreachable-requires g c = not_none g.N.LinkedNode.node c.args.nodes.now.slots c.args.slot c.requires.node (sym c.in_default.ensures.value) c.requires.here

pub shrink-requires : goal.shrink-requires
shrink-requires g c =
    let is = same_node g.N.LinkedNode.node c.args.nodes.now.slots c.args.slot c.in-Some.node.now c.requires.node (sym c.in-Some.ensures.value) c.requires.here in
    subst (λ (n : LinkNode g.row.P.Denot). Fits (smaller_form n.form) (length n.links)) is c.requires.few

pub returns-clause-ok : goal.returns-clause-ok
returns-clause-ok g c =
    let f = g.N.LinkedNode.node in
    let s = c.args.nodes.now.slots in
    let here = sym c.in-Some.ensures.value in
    record {
      node = f c.in-Some.node.now;
      here = node_there f s c.args.slot c.in-Some.node.now here;
      there = set_there f s c.args.slot c.in-Some.node.now c.shrink.new.self here ∙ ap (λ x. Some x) c.in_ok-shrink.ensures.ok;
      others = set_others f s c.args.slot c.in-Some.node.now c.shrink.new.self here;
    }

pub returns-in_err-shrink-clause-err : goal.returns-in_err-shrink-clause-err
returns-in_err-shrink-clause-err g c =
    let same = set_same g.N.LinkedNode.node c.args.nodes.now.slots c.args.slot c.in-Some.node.now c.shrink.new.self (sym c.in-Some.ensures.value) c.in_err-shrink.ensures.err in
    search (rules, same)
