use Rattle.std.proofs.Common.{◌∙◌, ap, sym}
use Rattle.std.specs.Option.{option_map}
use Rattle.node_table.specs.Table.{node_at}
use Rattle.tree_links.specs.Places.{as_linked}
use Rattle.tree_links.specs.SeenTable.{links_of, name_of, name_under, pair_in}
use Rattle.tree_links.proofs.CallLaws.{table_is}
use Rattle.tree_links.proofs.NodeLaws.{seen_get}
use Rattle.tree_links.proofs.SeenLaws.{at_links_of, byte_inside, seen_under}
use Rattle.tree_links.proofs.links.Links.get.Goals as goal

pub returns-clause-node : goal.returns-clause-node
returns-clause-node g c =
    let e = table_is (links_of as_linked c.self.inside.nodes.slots) _ _ _ c.self.view_is in
    seen_get as_linked c.self.inside.nodes.slots c.args.slot _ c.get.ensures ∙ ap (λ s. node_at s (name_of c.args.slot)) e

pub returns-clause-pairs : goal.returns-clause-pairs
returns-clause-pairs g c = λ byte less.
    let f = as_linked in
    let s = c.self.inside.nodes.slots in
    let e = table_is (links_of f s) _ _ _ c.self.view_is in
    sym (seen_under (links_of f s) c.args.slot byte (byte_inside byte less) ∙ ap (λ x. pair_in x byte) (at_links_of f s c.args.slot ∙ ap (option_map f) (sym c.get.ensures)))
    ∙ ap (λ s. node_at s (name_under c.args.slot byte)) e
