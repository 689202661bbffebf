use Rattle.std.proofs.Common.{rules}
use Rattle.live_scans.proofs.Pages.{waited_none, waited_busy}
use Rattle.live_faces.proofs.typed_congee.Congee.is_empty.Goals as goal

pub loop-init : goal.loop-init
loop-init g c = (search rules, search rules, waited_none c.args.guard.now)

pub returns-in-Ok-clause-tested : goal.returns-in-Ok-clause-tested
returns-in-Ok-clause-tested g c = (c.loop.guard, c.loop.invariant.2, c.in-Ok.ensures.tested)

pub loop-preserved : goal.loop-preserved
loop-preserved g c = (search rules, search rules, waited_busy c.args.guard.now c.loop.guard c.try_is_empty.new.guard c.try_is_empty.result c.loop.invariant.2 (search rules) c.try_is_empty.ensures.busy)
