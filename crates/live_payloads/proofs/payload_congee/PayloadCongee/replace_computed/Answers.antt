use Rattle.std.proofs.Common.{Some, IsSomeAnd, refl, subst}
use Rattle.live_updates.specs.Closures.{EndsWithCall}
use Rattle.live_updates.proofs.Reached.{no_call, call_on, last_call}
use Rattle.live_payloads.specs.Tries.{ReplacesPayload}
use Rattle.live_payloads.specs.Computes.{CalledAtOption}
use Rattle.live_payloads.proofs.Tried.{some_and, ok_on, err_on}
use Rattle.live_payloads.proofs.payload_congee.PayloadCongee.replace_computed.Given.{Over}
use Rattle.live_payloads.proofs.payload_congee.PayloadCongee.replace_computed.Goals as goal
use Rattle.live_payloads.proofs.payload_congee.PayloadCongee.replace_computed.Goals.{After-replace}

-- the closure was called with the payload that is lent
called : (g : Over) (c : After-replace g) → CalledAtOption g.F.FnMut c.args.f.now (Some c.get.result.now) c.f-new.result c.f-new.new.self
called g c = record { shown = Some c.get.result; shows = refl; called = c.f-new.ensures }

last : (g : Over) (c : After-replace g) → EndsWithCall (CalledAtOption g.F.FnMut) c.args.f.now (Some c.get.result.now) c.f-new.result c.f-new.new.self
last g c = last_call (CalledAtOption g.F.FnMut) c.args.f.now c.f-new.new.self (Some c.get.result.now) c.f-new.result (called g c)

pub returns-clause-reached : goal.returns-clause-reached
returns-clause-reached g c =
    call_on (CalledAtOption g.F.FnMut) c.args.f.now c.args.f.now c.f-new.new.self (Some c.get.result.now) c.f-new.result (no_call (CalledAtOption g.F.FnMut) c.args.f.now) (called g (goal.at.returns-clause-reached g c).After-replace)

pub returns-clause-made : goal.returns-clause-made
returns-clause-made g c =
    let key = g.K.Word.number c.args.key.now in
    let ticket = c.args.lent.now.ticket in
    let k = c.args.guard.now in
    let n = c.replace.new.guard in
    let old = c.get.result.now in
    let new = c.f-new.result in
    let ends = last g (goal.at.returns-clause-made g c).After-replace in
    ok_on c.replace.result (λ made.
    let replaced = subst (λ z. IsSomeAnd z (λ payload. ReplacesPayload key ticket payload (Some new) k n)) c.get.ensures.value made in
    some_and _ c.args.lent.now.value old c.get.ensures.value (new, ends, replaced)) c.replace.ensures.made

pub returns-clause-back : goal.returns-clause-back
returns-clause-back g c =
    let ends = last g (goal.at.returns-clause-back g c).After-replace in
    err_on _ _ c.replace.result (λ refused is. some_and _ refused.1 c.f-new.result is (Some c.get.result.now, ends)) c.replace.ensures.back
