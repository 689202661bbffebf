use Rattle.tree_links.specs.Places.{as_linked}
use Rattle.tree_edit.proofs.SideLaws.{last_linked}
use Rattle.tree_edit.proofs.ends.link_at.Goals as goal

pub returns-in-First : goal.returns-in-First
returns-in-First g c = rw c.in-First.is c.first_link.ensures

pub returns-in-Last : goal.returns-in-Last
returns-in-Last g c = rw c.in-Last.is (last_linked (as_linked c.args.node.now).links c.base.ensures.ascending _ c.last_below.ensures)
