use Rattle.node_table.proofs.KindLaws.{none-mapped}
use Rattle.tree_links.specs.Places.{as_link}
use Rattle.tree_links.proofs.PlaceLaws.{first_link}
use Rattle.tree_links.proofs.place.RowNodePlaceLinkedNode.first_from.Goals as goal

pub returns-in-Some-clause-some : goal.returns-in-Some-clause-some
returns-in-Some-clause-some g c = first_link c.args.self.now.children c.args.from c.in-Some.byte _ _ c.link_at.ensures c.in-Some.ensures.some

pub returns-in-None-clause-none : goal.returns-in-None-clause-none
returns-in-None-clause-none g c = none-mapped as_link c.args.self.now.children c.args.from c.in-None.ensures.none
