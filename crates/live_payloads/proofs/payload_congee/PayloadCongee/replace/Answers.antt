use Rattle.std.proofs.Common.{◌∙◌, sym, ap, subst}
use mathlib.Core.List.{IsPrefix}
use Rattle.live_payloads.specs.Payloads.{PayloadsKnown, KnowsMore}
use Rattle.live_payloads.specs.Tries.{Tried, ChangedNone, ReplacesPayload}
use Rattle.live_payloads.proofs.Looked.{knows_on}
use Rattle.live_payloads.proofs.Tried.{on_ok_is, some_and, lost_if, tried_none, replaces_now}
use Rattle.live_payloads.proofs.payload_congee.PayloadCongee.replace.Given.{Over}
use Rattle.live_payloads.proofs.payload_congee.PayloadCongee.replace.Goals as goal
use Rattle.live_payloads.proofs.payload_congee.PayloadCongee.replace.Goals.{After-inform}

-- what the guard knows once it was informed of the payload
abbrev informed : (g : Over) (c : After-inform g) → PayloadsKnown g.row.P.Denot
informed g c = record { tickets = c.guard.inside.guard; table = c.inform.new.seen.book; log = c.inform.new.seen.log }

knows : (g : Over) (c : After-inform g) → KnowsMore c.args.guard.now (informed g c)
knows g c =
    let is = c.guard.view_is in
    (ap (λ k. k.tickets.book) is, c.inform.ensures.table ∙ ap (λ k. k.table) is, subst (λ k. IsPrefix k.log c.inform.new.seen.log) is c.inform.ensures.grown)

-- no call of tickets was made
none : (g : Over) (c : After-inform g) → Tried (ChangedNone (g.K.Word.number c.args.key.now)) c.args.guard.now.tickets c.guard.inside.guard
none g c = tried_none (ChangedNone (g.K.Word.number c.args.key.now)) c.args.guard.now.tickets c.guard.inside.guard (ap (λ k. k.tickets) c.guard.view_is)

pub returns-in-Ok-Ok-clause-map : goal.returns-in-Ok-Ok-clause-map
returns-in-Ok-Ok-clause-map g c =
    let a = (goal.at.returns-in-Ok-Ok-clause-map g c).After-inform in
    knows_on c.args.guard.now (informed g a) c.try_compare_exchange.new.guard (knows g a) c.try_compare_exchange.ensures.map

pub returns-in-Ok-Ok-clause-made : goal.returns-in-Ok-Ok-clause-made
returns-in-Ok-Ok-clause-made g c =
    let a = (goal.at.returns-in-Ok-Ok-clause-made g c).After-inform in
    let key = g.K.Word.number c.args.key.now in
    let k = c.args.guard.now in
    let ticket = c.args.old.now.ticket in
    let n = c.try_compare_exchange.new.guard in
    let value = c.inform.ensures.issued in
    let made = on_ok_is c.in-Ok-Ok.field-0 c.in-Ok-Ok.field-0-0 c.in-Ok-Ok.field-0-is c.in-Ok-Ok.ensures.made in
    some_and (λ payload. ReplacesPayload key ticket payload c.args.new k n) c.args.old.now.value value.0 value.1 (replaces_now key ticket value.0 c.args.new k (informed g a) n (none g a) (knows g a).2 c.try_compare_exchange.ensures.map.2 value.2 made)

pub returns-in-Ok-Err-clause-map : goal.returns-in-Ok-Err-clause-map
returns-in-Ok-Err-clause-map g c =
    let a = (goal.at.returns-in-Ok-Err-clause-map g c).After-inform in
    knows_on c.args.guard.now (informed g a) c.try_compare_exchange.new.guard (knows g a) c.try_compare_exchange.ensures.map

pub returns-in-Ok-Err-clause-refused : goal.returns-in-Ok-Err-clause-refused
returns-in-Ok-Err-clause-refused g c =
    let a = (goal.at.returns-in-Ok-Err-clause-refused g c).After-inform in
    lost_if (g.K.Word.number c.args.key.now) c.args.old.now.ticket c.args.new c.in-Ok-Err.back c.in-Ok-Err.field-0 c.in-Ok-Err.field-0-is c.args.guard.now (informed g a) c.try_compare_exchange.new.guard (none g a) c.in-Ok-Err.ensures.changed

pub returns-in-Err-clause-map : goal.returns-in-Err-clause-map
returns-in-Err-clause-map g c =
    let a = (goal.at.returns-in-Err-clause-map g c).After-inform in
    knows_on c.args.guard.now (informed g a) c.try_compare_exchange.new.guard (knows g a) c.try_compare_exchange.ensures.map

pub returns-in-Err-clause-refused : goal.returns-in-Err-clause-refused
returns-in-Err-clause-refused g c =
    let a = (goal.at.returns-in-Err-clause-refused g c).After-inform in
    subst (λ k. Tried (ChangedNone (g.K.Word.number c.args.key.now)) c.args.guard.now.tickets k) (sym c.in-Err.ensures.refused.1) (none g a)
