use Rattle.std.proofs.Common.{◌≡◌, ◌+◌, ◌<◌, None, length, sym, subst}
use Rattle.spec_map.specs.Map.{lookup}
use Rattle.node_base.specs.Form.{Fits}
use Rattle.node_base.specs.declared.base_node.NodeType.TheVariants.{N48}
use Rattle.node_rows.specs.Spare.{IsSpareFor}
use Rattle.tree_links.specs.LinkNode.{LinkNode, MayLink}
use Rattle.tree_links.proofs.SlotLaws.{same_node, puts}
use Rattle.tree_links.proofs.slots.put_at.Goals as goal

pub insert-requires : goal.insert-requires
insert-requires g c =
    let r = c.requires.lacks in
    let is = same_node g.N.LinkedNode.node c.args.nodes.now.slots c.args.slot c.in-Some.node.now r.node (sym c.in-Some.ensures.value) r.here in
    record {
      absent = subst (λ (n : LinkNode g.row.P.Denot). lookup n.links c.args.byte ≡ None) is r.absent;
      room = subst (λ (n : LinkNode g.row.P.Denot). Fits n.form (length n.links + 1)) is r.room;
      kind = subst (λ (n : LinkNode g.row.P.Denot). MayLink n.prefix c.args.link) is r.kind;
      spare = subst (λ (n : LinkNode g.row.P.Denot). n.form ≡ N48 → length n.prefix < 7 → IsSpareFor (length n.links) c.args.spare) is (c.requires.spare r.node r.here);
    }

pub returns-clause-puts : goal.returns-clause-puts
returns-clause-puts g c =
    let r = c.requires.lacks in
    let is = same_node g.N.LinkedNode.node c.args.nodes.now.slots c.args.slot c.in-Some.node.now r.node (sym c.in-Some.ensures.value) r.here in
    puts g.N.LinkedNode.node c.args.nodes.now.slots c.args.slot c.in-Some.node.now c.insert.new.self (sym c.in-Some.ensures.value) c.args.byte c.args.link c.base.ensures.ascending
    (subst (λ (n : LinkNode g.row.P.Denot). lookup n.links c.args.byte ≡ None) is r.absent) c.insert.ensures
