use Rattle.tree_links.proofs.ReadLaws.{last_link, no_last_link}
use Rattle.tree_links.proofs.place.RowNodePlaceLinkedNode.last_below.Goals as goal

pub returns-in-Some : goal.returns-in-Some
returns-in-Some g c = last_link c.args.self.now.children c.args.to c.in-Some.byte _ _ c.link_at.ensures c.in-Some.ensures

pub returns-in-None : goal.returns-in-None
returns-in-None g c = no_last_link c.args.self.now.children c.args.to c.in-None.ensures
