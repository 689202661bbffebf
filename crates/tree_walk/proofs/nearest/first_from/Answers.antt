use Rattle.std.specs.Prelude.{Some}
use Rattle.tree_links.specs.LinkNode.{looked_at}
use Rattle.tree_links.specs.Places.{as_linked}
use Rattle.tree_walk.proofs.InsideLaws.{link_next}
use Rattle.tree_walk.proofs.nearest.first_from.Goals as goal

pub returns-in-Some-clause-some : goal.returns-in-Some-clause-some
returns-in-Some-clause-some g c =
    link_next (as_linked c.args.node.now).links c.args.from 256 (Some (looked_at c.in-Some.link)) c.base.ensures.ascending c.if-from-lt256.true c.in-Some.ensures
