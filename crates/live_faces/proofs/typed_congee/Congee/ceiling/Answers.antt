use Rattle.std.proofs.Common.{rules}
use Rattle.live_scans.proofs.Pages.{waited_none, waited_busy}
use Rattle.live_faces.proofs.typed_congee.Congee.ceiling.Goals as goal

pub loop-init : goal.loop-init
loop-init g c = (search rules, search rules, waited_none c.args.guard.now)

pub returns-in-Ok-clause-next : goal.returns-in-Ok-clause-next
returns-in-Ok-clause-next g c = (c.loop.guard, c.loop.invariant.2, c.in-Ok.ensures.next)

pub loop-preserved : goal.loop-preserved
loop-preserved g c = (search rules, search rules, waited_busy c.args.guard.now c.loop.guard c.try_ceiling.new.guard c.try_ceiling.result c.loop.invariant.2 (search rules) c.try_ceiling.ensures.busy)
