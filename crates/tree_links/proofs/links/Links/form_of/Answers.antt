use Rattle.std.proofs.Common.{◌∙◌, ap}
use Rattle.spec_node.specs.TableNode.{TableNode}
use Rattle.node_table.specs.Table.{node_at}
use Rattle.tree_links.specs.Places.{as_linked}
use Rattle.tree_links.specs.SeenTable.{name_of}
use Rattle.tree_links.proofs.NodeLaws.{seen_is}
use Rattle.tree_links.proofs.links.Links.form_of.Goals as goal

pub returns : goal.returns
returns g c = λ n here.
    c.get_type.ensures ∙ c.base.ensures.form ∙ ap (λ (m : TableNode g.row.P.Denot). m.form) (seen_is (node_at c.args.self.now.table (name_of c.args.slot)) c.args.slot (as_linked c.node.result.now) n c.node.ensures here)
