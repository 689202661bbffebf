use Rattle.std.proofs.Common.{ℕ, Some, None, subst}
use Rattle.live_updates.specs.Closures.{EndsWithCall}
use Rattle.live_updates.proofs.Reached.{no_call}
use Rattle.live_payloads.specs.Payloads.{GetsPayload}
use Rattle.live_payloads.specs.Tries.{Tried, ChangedNone, AddsPayload}
use Rattle.live_payloads.specs.Computes.{CalledAtOption}
use Rattle.live_payloads.proofs.Tried.{tried_on, vain_changed, gets_changed, stores_some, stores_on}
use Rattle.live_payloads.proofs.payload_congee.PayloadCongee.try_compute_or_insert.Given.{Over}
use Rattle.live_payloads.proofs.payload_congee.PayloadCongee.try_compute_or_insert.Goals as goal
use Rattle.live_payloads.proofs.payload_congee.PayloadCongee.try_compute_or_insert.Goals.{In-Ok-Some, In-Ok-None}

-- the key was looked up, and present
present : (g : Over) (c : In-Ok-Some g) → Tried (ChangedNone (g.K.Word.number c.args.key.now)) c.args.guard.now.tickets c.try_get.new.guard.tickets
present g c =
    let key = g.K.Word.number c.args.key.now in
    let k = c.args.guard.now in
    let n = c.try_get.new.guard in
    gets_changed key k n (Some c.in-Ok-Some.lent) (subst (λ z. GetsPayload key k z n) c.in-Ok-Some.field-0-is c.in-Ok-Some.ensures.made)

-- or absent
absent : (g : Over) (c : In-Ok-None g) → Tried (ChangedNone (g.K.Word.number c.args.key.now)) c.args.guard.now.tickets c.try_get.new.guard.tickets
absent g c =
    let key = g.K.Word.number c.args.key.now in
    let k = c.args.guard.now in
    let n = c.try_get.new.guard in
    gets_changed key k n None (subst (λ z. GetsPayload key k z n) c.in-Ok-None.field-0-is c.in-Ok-None.ensures.made)

pub returns-in-Ok-clause-stored : goal.returns-in-Ok-clause-stored
returns-in-Ok-clause-stored g c =
    let step = CalledAtOption g.F.FnMut in
    let f = c.args.f.now in
    let key = g.K.Word.number c.args.key.now in
    let m = c.try_get.new.guard in
    let lent = c.in-Ok-Some.lent in
    let now = c.replace_computed.new in
    stores_on step f f now.f key (Some lent) c.args.guard.now m now.guard (no_call step f) (present g (goal.at.returns-in-Ok-clause-stored g c).In-Ok-Some) c.try_get.ensures.map.2 (stores_some step f now.f key lent m now.guard c.in-Ok.ensures.made)

pub returns-in-Ok-Some-clause-refused : goal.returns-in-Ok-Some-clause-refused
returns-in-Ok-Some-clause-refused g c =
    tried_on (ChangedNone (g.K.Word.number c.args.key.now)) c.args.guard.now.tickets c.try_get.new.guard.tickets c.replace_computed.new.guard.tickets (present g (goal.at.returns-in-Ok-Some-clause-refused g c).In-Ok-Some) c.in-Err-replace_computed.ensures.refused

pub returns-in-Ok-add_computed-clause-stored : goal.returns-in-Ok-add_computed-clause-stored
returns-in-Ok-add_computed-clause-stored g c =
    let step = CalledAtOption g.F.FnMut in
    let f = c.args.f.now in
    let key = g.K.Word.number c.args.key.now in
    let m = c.try_get.new.guard in
    let now = c.add_computed.new in
    let added = subst (λ z. (ticket : ℕ) × (payload : g.row.P.Denot) × EndsWithCall step f None payload now.f × AddsPayload z ticket payload m now.guard) c.into_u64.ensures c.in-Ok-add_computed.ensures.added in
    stores_on step f f now.f key None c.args.guard.now m now.guard (no_call step f) (absent g (goal.at.returns-in-Ok-add_computed-clause-stored g c).In-Ok-None) c.try_get.ensures.map.2 added

pub returns-in-Ok-None-clause-refused : goal.returns-in-Ok-None-clause-refused
returns-in-Ok-None-clause-refused g c =
    let m = c.try_get.new.guard.tickets in
    let n = c.add_computed.new.guard.tickets in
    let refused = subst (λ z. Tried (ChangedNone z) m n) c.into_u64.ensures c.in-Err-add_computed.ensures.refused in
    tried_on (ChangedNone (g.K.Word.number c.args.key.now)) c.args.guard.now.tickets m n (absent g (goal.at.returns-in-Ok-None-clause-refused g c).In-Ok-None) refused

pub returns-clause-refused : goal.returns-clause-refused
returns-clause-refused g c =
    let vain = c.in-Err.ensures.busy in
    vain_changed (g.K.Word.number c.args.key.now) vain.0 c.args.guard.now.tickets c.try_get.new.guard.tickets vain.1
