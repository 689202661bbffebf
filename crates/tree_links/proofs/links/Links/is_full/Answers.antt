use Rattle.std.proofs.Common.{◌≡◌, ◌+◌, false, length, IsTrue, subst}
use Rattle.node_base.specs.Form.{Fits}
use Rattle.spec_node.specs.TableNode.{TableNode}
use Rattle.node_table.specs.Table.{node_at}
use Rattle.tree_links.specs.Places.{as_linked}
use Rattle.tree_links.specs.SeenTable.{name_of}
use Rattle.tree_links.proofs.NodeLaws.{seen_is}
use Rattle.tree_links.proofs.SeenLaws.{length-seen}
use Rattle.tree_links.proofs.links.Links.is_full.Goals as goal

pub returns-clause-full : goal.returns-clause-full
returns-clause-full g c = λ n here.
    let l = as_linked c.node.result.now in
    subst (λ (m : TableNode g.row.P.Denot). IsTrue c.is_full.result → Fits m.form (length m.children + 1) → ⊥) (seen_is (node_at c.args.self.now.table (name_of c.args.slot)) c.args.slot l n c.node.ensures here)
    (rw (length-seen c.args.slot l.links) c.is_full.ensures.full)

pub returns-clause-room : goal.returns-clause-room
returns-clause-room g c = λ n here.
    let l = as_linked c.node.result.now in
    subst (λ (m : TableNode g.row.P.Denot). c.is_full.result ≡ false → Fits m.form (length m.children + 1)) (seen_is (node_at c.args.self.now.table (name_of c.args.slot)) c.args.slot l n c.node.ensures here)
    (rw (length-seen c.args.slot l.links) c.is_full.ensures.room)
