use Rattle.std.proofs.Common.{rules, ◌≡◌, ◌↔◌, ◌∙◌, length, IsTrue, nat_eq, ap, sym, subst}
use Rattle.spec_node.specs.TableNode.{TableNode}
use Rattle.node_table.specs.Table.{node_at}
use Rattle.tree_links.specs.Places.{as_linked}
use Rattle.tree_links.specs.SeenTable.{name_of}
use Rattle.tree_links.proofs.NodeLaws.{seen_is}
use Rattle.tree_links.proofs.SeenLaws.{length-seen}
use Rattle.tree_links.proofs.links.Links.is_empty.Goals as goal

pub returns : goal.returns
returns g c = λ n here.
    let l = as_linked c.node.result.now in
    let count : c.value_count.result ≡ length n.children =
    c.value_count.ensures ∙ c.base.ensures.count ∙ sym (length-seen c.args.slot l.links)
    ∙ ap (λ (m : TableNode g.row.P.Denot). length m.children) (seen_is (node_at c.args.self.now.table (name_of c.args.slot)) c.args.slot l n c.node.ensures here) in
    subst (λ k. IsTrue (nat_eq c.value_count.result 0) ↔ (k ≡ 0)) count (search rules)
