use Rattle.node_table.proofs.KindLaws.{length-mapped}
use Rattle.tree_links.specs.Places.{as_link}
use Rattle.tree_links.proofs.place.RowNodePlaceLinkedNode.is_due.Goals as goal

pub returns : goal.returns
returns g c = rw (length-mapped as_link c.args.self.now.children) c.is_due.ensures
