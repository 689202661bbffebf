use Rattle.std.proofs.Common.{◌≤◌, ◌↔◌, length, IsTrue, subst}
use Rattle.node_base.specs.Form.{few_in}
use Rattle.spec_node.specs.TableNode.{TableNode}
use Rattle.node_table.specs.Table.{node_at}
use Rattle.tree_links.specs.Places.{as_linked}
use Rattle.tree_links.specs.SeenTable.{name_of}
use Rattle.tree_links.proofs.NodeLaws.{seen_is}
use Rattle.tree_links.proofs.SeenLaws.{length-seen}
use Rattle.tree_links.proofs.links.Links.is_due.Goals as goal

pub returns : goal.returns
returns g c = λ n here.
    let l = as_linked c.node.result.now in
    subst (λ (m : TableNode g.row.P.Denot). IsTrue c.is_due.result ↔ (length m.children ≤ few_in m.form)) (seen_is (node_at c.args.self.now.table (name_of c.args.slot)) c.args.slot l n c.node.ensures here)
    (rw (length-seen c.args.slot l.links) c.is_due.ensures)
