use Rattle.std.proofs.Common.{IfOk, sym, subst, rules}
use Rattle.word_slots.specs.Tickets.{IsNew}
use Rattle.live_payloads.proofs.payload_congee.PayloadCongee.issue.Goals as goal
use Rattle.live_payloads.proofs.payload_congee.PayloadCongee.issue.Goals.{in-Ok, in-Err-Busy-default, in-Err-Memory-default}

pub returns-clause-first : goal.returns-clause-first
returns-clause-first g c =
    let known = c.args.guard.now in
    elim c.match-insert.branch [
      | in-Ok w ↦ subst (λ r. IfOk r (λ ticket. IsNew known.log ticket)) (sym w.result-is) (subst (λ k. IsNew k.log w.in-Ok.ticket) c.guard.view_is w.in-Ok.ensures.first)
      | in-Err-Busy-default w ↦ subst (λ r. IfOk r (λ ticket. IsNew known.log ticket)) (sym w.result-is) (search rules)
      | in-Err-Memory-default w ↦ subst (λ r. IfOk r (λ ticket. IsNew known.log ticket)) (sym w.result-is) (search rules)
    ]
