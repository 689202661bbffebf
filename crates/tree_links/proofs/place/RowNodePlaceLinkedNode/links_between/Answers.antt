use Rattle.std.proofs.Common.{ap, sym, ◌∙◌}
use Rattle.node_table.proofs.KindLaws.{between-mapped}
use Rattle.tree_links.specs.Places.{as_link, as_links}
use Rattle.tree_links.proofs.place.RowNodePlaceLinkedNode.links_between.Goals as goal

pub returns-clause-links : goal.returns-clause-links
returns-clause-links g c = ap (λ es. as_links es) c.children_between.ensures.children ∙ sym (between-mapped as_link c.args.self.now.children c.args.from c.args.to)
