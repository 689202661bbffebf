use Rattle.std.proofs.Common.{◌≡◌, ◌∙◌, length, ap, sym}
use Rattle.spec_node.specs.TableNode.{TableNode}
use Rattle.node_table.specs.Table.{node_at}
use Rattle.node_table.proofs.KindLaws.{length-mapped}
use Rattle.tree_links.specs.Places.{as_link, as_linked}
use Rattle.tree_links.specs.SeenTable.{name_of}
use Rattle.tree_links.proofs.NodeLaws.{seen_is}
use Rattle.tree_links.proofs.SeenLaws.{length-seen}
use Rattle.tree_edit.proofs.RemovalLaws.{is_one}
use Rattle.tree_edit.proofs.removal.is_alone.Goals as goal

pub returns-in-N4 : goal.returns-in-N4
returns-in-N4 g c = λ n here one.
    let l = as_linked c.node.result.now in
    let is = seen_is (node_at c.args.nodes.now.table (name_of c.args.slot)) c.args.slot l n c.node.ensures here in
    let count : c.value_count.result ≡ length n.children =
    c.value_count.ensures ∙ c.base.ensures.count ∙ sym (length-mapped as_link c.node.result.now.children) ∙ sym (length-seen c.args.slot l.links) ∙ ap (λ (m : TableNode g.row.P.Denot). length m.children) is in
    (sym (c.form_of.ensures n here) ∙ c.in-N4.is, sym count ∙ is_one c.value_count.result one)
