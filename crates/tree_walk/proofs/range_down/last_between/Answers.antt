use Rattle.tree_links.specs.Places.{as_linked}
use Rattle.tree_walk.proofs.NearestLaws.{byte_before}
use Rattle.tree_walk.proofs.ScanDownLaws.{down_none, down_past}
use Rattle.tree_walk.proofs.range_down.last_between.Goals as goal

pub returns-in_default-clause-none : goal.returns-in_default-clause-none
returns-in_default-clause-none c = down_none (as_linked c.args.node.now).links c.base.ensures.ascending c.args.from c.args.to c.requires c.in_default.ensures

pub returns-then-at-from-clause-none : goal.returns-then-at-from-clause-none
returns-then-at-from-clause-none c = down_past (as_linked c.args.node.now).links c.base.ensures.ascending c.args.from c.args.to c.requires c.in-Some.byte _ c.in-Some.ensures c.if-at-from.true

pub returns-clause-before : goal.returns-clause-before
returns-clause-before c = byte_before (as_linked c.args.node.now).links c.base.ensures.ascending c.args.to c.requires c.in-Some.byte _ c.in-Some.ensures
