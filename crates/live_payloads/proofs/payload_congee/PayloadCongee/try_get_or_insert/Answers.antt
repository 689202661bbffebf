use Rattle.std.proofs.Common.{◌≡◌, ◌⊎◌, Some, None, refl, subst}
use Rattle.live_updates.specs.Refusals.{FoundNone}
use Rattle.live_payloads.specs.Payloads.{GetsPayload}
use Rattle.live_payloads.specs.Tries.{Tried, ChangedNone, AddsPayload}
use Rattle.live_payloads.proofs.Tried.{tried_on, vain_changed, gets_at_last, gets_changed, refused_then, adds_on}
use Rattle.live_payloads.proofs.payload_congee.PayloadCongee.try_get_or_insert.Given.{Over}
use Rattle.live_payloads.proofs.payload_congee.PayloadCongee.try_get_or_insert.Goals as goal
use Rattle.live_payloads.proofs.payload_congee.PayloadCongee.try_get_or_insert.Goals.{In-Ok-None}

-- the key was looked up, and absent
absent : (g : Over) (c : In-Ok-None g) → GetsPayload (g.K.Word.number c.args.key.now) c.args.guard.now None c.try_get.new.guard
absent g c = subst (λ z. GetsPayload (g.K.Word.number c.args.key.now) c.args.guard.now z c.try_get.new.guard) c.in-Ok-None.field-0-is c.in-Ok-None.ensures.made

tried : (g : Over) (c : In-Ok-None g) → Tried (ChangedNone (g.K.Word.number c.args.key.now)) c.args.guard.now.tickets c.try_get.new.guard.tickets
tried g c = gets_changed (g.K.Word.number c.args.key.now) c.args.guard.now c.try_get.new.guard None (absent g c)

pub returns-in-Ok-Some-clause-found : goal.returns-in-Ok-Some-clause-found
returns-in-Ok-Some-clause-found g c =
    let key = g.K.Word.number c.args.key.now in
    let k = c.args.guard.now in
    let n = c.try_get.new.guard in
    let found = Some c.in-Ok-Some.lent in
    (refl, gets_at_last key k n found (subst (λ z. GetsPayload key k z n) c.in-Ok-Some.field-0-is c.in-Ok-Some.ensures.made))

pub returns-in-Ok-clause-added : goal.returns-in-Ok-clause-added
returns-in-Ok-clause-added g c =
    let none = (goal.at.returns-in-Ok-clause-added g c).In-Ok-None in
    let m = c.try_get.new.guard in
    let n = c.add.new.guard in
    let lent = c.in-Ok.lent in
    let payload = c.args.payload in
    let added = subst (λ z. (lent.value ≡ Some payload) × AddsPayload z lent.ticket payload m n) c.into_u64.ensures c.in-Ok.ensures.added in
    (added.0, adds_on (g.K.Word.number c.args.key.now) lent.ticket payload c.args.guard.now m n (tried g none) c.try_get.ensures.map.2 added.1)

pub returns-in-Err-add-clause-busy : goal.returns-in-Err-add-clause-busy
returns-in-Err-add-clause-busy g c = λ is.
    let none = (goal.at.returns-in-Err-add-clause-busy g c).In-Ok-None in
    let m = c.try_get.new.guard.tickets in
    let n = c.add.new.guard.tickets in
    let busy = subst (λ z. Tried (ChangedNone z) m n) c.into_u64.ensures (c.in-Err-add.ensures.busy is) in
    tried_on (ChangedNone (g.K.Word.number c.args.key.now)) c.args.guard.now.tickets m n (tried g none) busy

pub returns-in-Err-add-clause-memory : goal.returns-in-Err-add-clause-memory
returns-in-Err-add-clause-memory g c = λ is.
    let none = (goal.at.returns-in-Err-add-clause-memory g c).In-Ok-None in
    let m = c.try_get.new.guard in
    let n = c.add.new.guard in
    let memory = subst (λ z. (n.tickets ≡ m.tickets) ⊎ FoundNone m.tickets z n.tickets) c.into_u64.ensures (c.in-Err-add.ensures.memory is) in
    refused_then (g.K.Word.number c.args.key.now) c.args.guard.now m n (absent g none) memory

pub returns-in-Err-clause-busy : goal.returns-in-Err-clause-busy
returns-in-Err-clause-busy g c = λ is.
    let vain = c.in-Err.ensures.busy in
    vain_changed (g.K.Word.number c.args.key.now) vain.0 c.args.guard.now.tickets c.try_get.new.guard.tickets vain.1
