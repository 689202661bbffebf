use Rattle.std.proofs.Common.{sym, subst}
use Rattle.word_slots.specs.Tickets.{HasIssued}
use Rattle.live_payloads.proofs.payload_congee.PayloadCongee.try_insert.Goals as goal

pub returns-in-Err-clause-back : goal.returns-in-Err-clause-back
returns-in-Err-clause-back g c =
    let payload = c.args.payload in
    c.withdraw.ensures.payload payload (subst (λ k. HasIssued k.log c.in_ok-ticket.ticket payload) (sym c.guard.view_is) c.in_ok-ticket.ensures.issued)
