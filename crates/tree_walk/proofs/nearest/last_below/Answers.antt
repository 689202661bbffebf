use Rattle.tree_links.specs.LinkNode.{looked_at}
use Rattle.tree_links.specs.Places.{as_linked}
use Rattle.tree_walk.proofs.NearestLaws.{below_found}
use Rattle.tree_walk.proofs.nearest.last_below.Goals as goal

pub returns-in-Some : goal.returns-in-Some
returns-in-Some g c =
    below_found (as_linked c.args.node.now).links c.args.to (looked_at c.in-Some.link) c.base.ensures.ascending c.if-to-gt0.true c.requires c.in-Some.ensures
