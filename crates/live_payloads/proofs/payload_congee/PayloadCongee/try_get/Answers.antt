use Rattle.std.proofs.Common.{rules}
use Rattle.live_payloads.specs.Payloads.{LookedInVain, GetsPayload}
use Rattle.live_payloads.proofs.Looked.{knows_on, vain_on, gets_on}
use Rattle.live_payloads.proofs.payload_congee.PayloadCongee.try_get.Goals as goal

pub returns-in-Some-clause-made : goal.returns-in-Some-clause-made
returns-in-Some-clause-made g c =
    let key = g.K.Word.number c.args.key.now in
    let found = c.in-Some.found in
    let made : GetsPayload key c.loop.guard found c.look_up.new.guard = search rules in
    gets_on key c.args.guard.now c.loop.guard c.look_up.new.guard found c.loop.invariant.1 made

pub loop-preserved : goal.loop-preserved
loop-preserved g c =
    let key = g.K.Word.number c.args.key.now in
    let m = c.loop.guard in
    let n = c.look_up.new.guard in
    let vain : LookedInVain key m.tickets n.tickets = search rules in
    (knows_on c.args.guard.now m n c.loop.invariant.0 c.look_up.ensures.map, vain_on key c.args.guard.now.tickets m.tickets n.tickets c.loop.invariant.1 vain)
