use Rattle.std.proofs.Common.{rules}
use Rattle.live_scans.proofs.Pages.{waited_none, waited_busy}
use Rattle.live_payloads.proofs.Looked.{knows_none, knows_on}
use Rattle.live_payloads.proofs.payload_congee.PayloadCongee.value_count.Goals as goal

pub loop-init : goal.loop-init
loop-init g c = (knows_none c.args.guard.now, waited_none c.args.guard.now.tickets)

pub returns-in-Ok-clause-counted : goal.returns-in-Ok-clause-counted
returns-in-Ok-clause-counted g c = (c.loop.guard.tickets, c.loop.invariant.1, c.in-Ok.ensures.counted)

pub loop-preserved : goal.loop-preserved
loop-preserved g c =
    let k = c.args.guard.now in
    let m = c.loop.guard in
    let n = c.try_value_count.new.guard in
    (knows_on k m n c.loop.invariant.0 c.try_value_count.ensures.map, waited_busy k.tickets m.tickets n.tickets c.try_value_count.result c.loop.invariant.1 (search rules) c.try_value_count.ensures.busy)
