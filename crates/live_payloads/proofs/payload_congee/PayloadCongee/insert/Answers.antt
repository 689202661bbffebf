use Rattle.std.proofs.Common.{subst}
use Rattle.live_payloads.specs.Payloads.{InsertsPayload}
use Rattle.live_payloads.proofs.Looked.{inserts_on}
use Rattle.live_payloads.proofs.payload_congee.PayloadCongee.insert.Goals as goal

pub returns-in-Ok-clause-made : goal.returns-in-Ok-clause-made
returns-in-Ok-clause-made g c =
    let key = g.K.Word.number c.args.key in
    let m = c.loop.guard in
    let n = c.try_insert.new.guard in
    let before = c.in-Ok.before in
    let made = subst (λ v. InsertsPayload key v m before n) c.loop.invariant.0 c.in-Ok.ensures.made in
    inserts_on key c.args.payload c.args.guard.now m n before c.loop.invariant.1 c.loop.invariant.2.2 made
