use Rattle.std.proofs.Common.{◌≡◌, ◌<◌, length, subst}
use Rattle.node_base.specs.declared.base_node.NodeType.TheVariants.{N256}
use Rattle.node_rows.specs.Spare.{IsSpareFor}
use Rattle.spec_node.specs.TableNode.{TableNode}
use Rattle.node_table.specs.Table.{node_at}
use Rattle.node_table.proofs.KindLaws.{if_ok}
use Rattle.tree_links.specs.Places.{as_linked}
use Rattle.tree_links.specs.SeenTable.{name_of}
use Rattle.tree_links.proofs.NodeLaws.{seen_is}
use Rattle.tree_links.proofs.SeenLaws.{length-seen}
use Rattle.tree_links.proofs.links.Links.spare.Goals as goal

pub returns : goal.returns
returns g c =
    let l = as_linked c.node.result.now in
    if_ok c.spare.result
    (λ spare has n here.
    subst (λ (m : TableNode g.row.P.Denot). length m.prefix < 7 → (m.form ≡ N256 → ⊥) → length m.children < 48 → IsSpareFor (length m.children) spare)
    (seen_is (node_at c.args.self.now.table (name_of c.args.slot)) c.args.slot l n c.node.ensures here)
    (rw (length-seen c.args.slot l.links) has))
    c.spare.ensures
