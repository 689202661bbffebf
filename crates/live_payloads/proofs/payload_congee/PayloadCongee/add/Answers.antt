use Rattle.std.proofs.Common.{◌∙◌, sym, ap, subst}
use Rattle.word_slots.specs.Tickets.{HasIssued}
use Rattle.live_payloads.specs.Payloads.{PayloadsKnown}
use Rattle.live_payloads.specs.Tries.{AddsPayload}
use Rattle.live_payloads.proofs.Looked.{issued_on}
use Rattle.live_payloads.proofs.Tried.{found_other, was_busy, lent_is, adds_now}
use Rattle.live_payloads.proofs.payload_congee.PayloadCongee.add.Goals as goal
use Rattle.live_payloads.proofs.payload_congee.PayloadCongee.add.Goals.{in-Ok-Some, in-Err}

pub returns-in_default-clause-back : goal.returns-in_default-clause-back
returns-in_default-clause-back g c =
    let ticket = c.in_ok-ticket.ticket in
    c.withdraw.ensures.payload c.args.payload (issued_on c.issue.new.guard.log c.lend.new.guard.log ticket c.args.payload c.lend.ensures.map.2 c.in_ok-ticket.ensures.issued)

pub returns-in-Ok-None-clause-added : goal.returns-in-Ok-None-clause-added
returns-in-Ok-None-clause-added g c =
    let ticket = c.in_ok-ticket.ticket in
    let payload = c.args.payload in
    let log = c.lend.new.guard.log in
    let issued = issued_on c.issue.new.guard.log log ticket payload c.lend.ensures.map.2 c.in_ok-ticket.ensures.issued in
    let is = c.guard.view_is in
    let n : PayloadsKnown g.row.P.Denot = record { tickets = c.get_or_insert.new.guard; table = c.guard.inside.seen.book; log = c.guard.inside.seen.log } in
    let same = ap (λ k. k.tickets) is ∙ (c.lend.ensures.tickets ∙ c.issue.ensures.tickets) in (
      lent_is log c.guard.inside.seen.log ticket c.in-Some.lent.value payload (ap (λ k. k.log) is) c.in-Some.ensures.payload.1 issued c.agree.ensures.once,
      subst (λ t. AddsPayload c.args.number t payload c.args.guard.now n) (sym c.in-Some.ensures.payload.0)
          (adds_now c.args.number ticket payload c.args.guard.now n c.guard.inside.guard c.in-Ok-None.field-0 c.in-Ok-None.field-0-is same c.in_ok-ticket.ensures.first
          (subst (λ k. HasIssued k.log ticket payload) (sym is) issued) c.in-Ok-None.ensures.made),
    )

pub returns-clause-busy : goal.returns-clause-busy
returns-clause-busy g c = λ busy.
    let key = c.args.number in
    let k = c.args.guard.now.tickets in
    let m = c.guard.inside.guard in
    let n = c.get_or_insert.new.guard in
    let p = c.withdraw-2.new.guard.tickets in
    let same = ap (λ z. z.tickets) c.guard.view_is ∙ (c.lend.ensures.tickets ∙ c.issue.ensures.tickets) in
    elim c.match-get_or_insert.branch [
      | in-Ok-Some w ↦ found_other key c.in_ok-ticket.ticket w.in-Ok-Some.field-0-0 k m n p w.in-Ok-Some.field-0 w.in-Ok-Some.field-0-is same c.withdraw-2.ensures.tickets w.in-Ok-Some.ensures.made
      | in-Err w ↦ was_busy key k m n p w.in-Err.why (sym w.why-is ∙ busy) same c.withdraw-2.ensures.tickets w.in-Err.ensures.refused
    ]

pub returns-clause-back : goal.returns-clause-back
returns-clause-back g c =
    let ticket = c.in_ok-ticket.ticket in
    let payload = c.args.payload in
    let issued = issued_on c.issue.new.guard.log c.lend.new.guard.log ticket payload c.lend.ensures.map.2 c.in_ok-ticket.ensures.issued in
    c.withdraw-2.ensures.payload payload (subst (λ k. HasIssued k.log ticket payload) (sym c.guard.view_is) issued)
