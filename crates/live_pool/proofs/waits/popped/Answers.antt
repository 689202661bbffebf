use Rattle.std.proofs.Common.{rules, ◌+◌}
use Rattle.live_pool.proofs.Missed.{missed_none, missed_tried, popped_then}
use Rattle.live_pool.proofs.waits.popped.Goals as goal

pub loop-init : goal.loop-init
loop-init g c = (search rules, search rules, missed_none c.args.up c.args.low (c.args.last + 1) c.args.guard.now)

pub returns-in-Ok-clause-popped : goal.returns-in-Ok-clause-popped
returns-in-Ok-clause-popped g c = popped_then c.args.up c.args.low (c.args.last + 1) c.args.guard.now c.loop.guard c.pop.new.guard c.in-Ok.found c.loop.invariant.2 c.in-Ok.ensures.popped

pub loop-preserved : goal.loop-preserved
loop-preserved g c = (search rules, search rules, missed_tried c.args.up c.args.low (c.args.last + 1) c.args.guard.now c.loop.guard c.pop.new.guard c.pop.result c.loop.invariant.2 (search rules) c.pop.ensures.busy)
