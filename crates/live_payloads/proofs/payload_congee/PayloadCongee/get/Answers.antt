use Rattle.live_payloads.proofs.Looked.{knows_on, vain_on, gets_on}
use Rattle.live_payloads.proofs.payload_congee.PayloadCongee.get.Goals as goal

pub returns-in-Ok-clause-made : goal.returns-in-Ok-clause-made
returns-in-Ok-clause-made g c =
    let key = g.K.Word.number c.args.key.now in
    gets_on key c.args.guard.now c.loop.guard c.try_get.new.guard c.in-Ok.found c.loop.invariant.1 c.in-Ok.ensures.made

pub loop-preserved : goal.loop-preserved
loop-preserved g c =
    let key = g.K.Word.number c.args.key.now in
    let m = c.loop.guard in
    let n = c.try_get.new.guard in
    (knows_on c.args.guard.now m n c.loop.invariant.0 c.try_get.ensures.map, vain_on key c.args.guard.now.tickets m.tickets n.tickets c.loop.invariant.1 c.in_default.ensures.busy)
