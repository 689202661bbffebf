use Rattle.node_table.proofs.KindLaws.{length-mapped}
use Rattle.tree_links.specs.Places.{as_link}
use Rattle.tree_links.proofs.place.RowNodePlaceLinkedNode.is_full.Goals as goal

pub returns-clause-full : goal.returns-clause-full
returns-clause-full g c = rw (length-mapped as_link c.args.self.now.children) c.is_full.ensures.full

pub returns-clause-room : goal.returns-clause-room
returns-clause-room g c = rw (length-mapped as_link c.args.self.now.children) c.is_full.ensures.room
