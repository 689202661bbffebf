use Rattle.node_table.proofs.KindLaws.{length-mapped}
use Rattle.tree_links.specs.Places.{as_link}
use Rattle.tree_links.proofs.place.RowNodePlaceLinkedNode.grow.Goals as goal

pub returns-clause-room : goal.returns-clause-room
returns-clause-room g c = rw (length-mapped as_link c.grow.new.self.children) c.grow.ensures.room
