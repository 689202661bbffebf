use Rattle.std.proofs.Common.{Some, None, IsSomeAnd, refl, sym, subst}
use Rattle.std.specs.Fn.{CalledAt}
use Rattle.live_updates.specs.Closures.{Reaches, EndsWithCall}
use Rattle.live_updates.proofs.Reached.{no_call, call_on, last_call}
use Rattle.live_payloads.specs.Payloads.{GetsPayload}
use Rattle.live_payloads.specs.Tries.{Tried, ChangedNone, ReplacesPayload}
use Rattle.live_payloads.proofs.Tried.{tried_on, vain_changed, gets_at_last, gets_changed, replaces_on}
use Rattle.live_payloads.proofs.payload_congee.PayloadCongee.try_compute_if_present.Given.{Over}
use Rattle.live_payloads.proofs.payload_congee.PayloadCongee.try_compute_if_present.Goals as goal
use Rattle.live_payloads.proofs.payload_congee.PayloadCongee.try_compute_if_present.Goals.{In-Ok-Some, After-f-new}

-- the key was looked up, and present
tried : (g : Over) (c : In-Ok-Some g) → Tried (ChangedNone (g.K.Word.number c.args.key.now)) c.args.guard.now.tickets c.try_get.new.guard.tickets
tried g c =
    let key = g.K.Word.number c.args.key.now in
    let k = c.args.guard.now in
    let n = c.try_get.new.guard in
    gets_changed key k n (Some c.in-Ok-Some.lent) (subst (λ z. GetsPayload key k z n) c.in-Ok-Some.field-0-is c.in-Ok-Some.ensures.made)

-- the closure was called with the payload
called : (g : Over) (c : After-f-new g) → CalledAt g.F.FnMut c.args.f.now c.get.result.now c.f-new.result c.f-new.new.self
called g c = record { shown = c.get.result; shows = refl; called = c.f-new.ensures }

reached : (g : Over) (c : After-f-new g) → Reaches (CalledAt g.F.FnMut) c.args.f.now c.f-new.new.self
reached g c = call_on (CalledAt g.F.FnMut) c.args.f.now c.args.f.now c.f-new.new.self c.get.result.now c.f-new.result (no_call (CalledAt g.F.FnMut) c.args.f.now) (called g c)

last : (g : Over) (c : After-f-new g) → EndsWithCall (CalledAt g.F.FnMut) c.args.f.now c.get.result.now c.f-new.result c.f-new.new.self
last g c = last_call (CalledAt g.F.FnMut) c.args.f.now c.f-new.new.self c.get.result.now c.f-new.result (called g c)

pub returns-in-Ok-clause-reached : goal.returns-in-Ok-clause-reached
returns-in-Ok-clause-reached g c = reached g (goal.at.returns-in-Ok-clause-reached g c).After-f-new

pub returns-in-Ok-clause-made : goal.returns-in-Ok-clause-made
returns-in-Ok-clause-made g c =
    let at = goal.at.returns-in-Ok-clause-made g c in
    let key = g.K.Word.number c.args.key.now in
    let m = c.try_get.new.guard in
    let n = c.replace.new.guard in
    let lent = c.in-Ok-Some.lent in
    let old = c.get.result.now in
    let new = c.f-new.result in
    let made = subst (λ z. IsSomeAnd z (λ payload. ReplacesPayload key lent.ticket payload new m n)) c.get.ensures.value c.in-Ok.ensures.made in
    (old, new, c.get.ensures.value, last g at.After-f-new, replaces_on key lent.ticket old new c.args.guard.now m n (tried g at.In-Ok-Some) c.try_get.ensures.map.2 made)

pub returns-in-Ok-Some-clause-reached : goal.returns-in-Ok-Some-clause-reached
returns-in-Ok-Some-clause-reached g c = reached g (goal.at.returns-in-Ok-Some-clause-reached g c).After-f-new

pub returns-in-Ok-Some-clause-refused : goal.returns-in-Ok-Some-clause-refused
returns-in-Ok-Some-clause-refused g c =
    tried_on (ChangedNone (g.K.Word.number c.args.key.now)) c.args.guard.now.tickets c.try_get.new.guard.tickets c.replace.new.guard.tickets (tried g (goal.at.returns-in-Ok-Some-clause-refused g c).In-Ok-Some) c.in-Err-replace.ensures.refused

pub returns-in-Ok-Some-clause-back : goal.returns-in-Ok-Some-clause-back
returns-in-Ok-Some-clause-back g c = λ is.
    let called = last g (goal.at.returns-in-Ok-Some-clause-back g c).After-f-new in
    (c.get.result.now, subst (λ z. EndsWithCall (CalledAt g.F.FnMut) c.args.f.now c.get.result.now z c.f-new.new.self) (sym c.in-Err-replace.ensures.back) called)

pub returns-in-Ok-None-clause-absent : goal.returns-in-Ok-None-clause-absent
returns-in-Ok-None-clause-absent g c =
    let key = g.K.Word.number c.args.key.now in
    let k = c.args.guard.now in
    let n = c.try_get.new.guard in
    gets_at_last key k n None (subst (λ z. GetsPayload key k z n) c.in-Ok-None.field-0-is c.in-Ok-None.ensures.made)

pub returns-clause-refused : goal.returns-clause-refused
returns-clause-refused g c =
    let vain = c.in-Err.ensures.busy in
    vain_changed (g.K.Word.number c.args.key.now) vain.0 c.args.guard.now.tickets c.try_get.new.guard.tickets vain.1
