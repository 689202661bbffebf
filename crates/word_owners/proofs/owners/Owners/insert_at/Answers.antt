use Rattle.std.proofs.Common.{◌∙◌, sym, ap, subst}
use Rattle.word_hazards.specs.Views.{In, View}
use Rattle.word_owners.proofs.owners.Owners.insert_at.Goals as goal

pub returns-clause-first : goal.returns-clause-first
returns-clause-first c = λ o x.
    let one = ap (λ (v : View). v.issued) c.fill.ensures.filled in
    let two = ap (λ (v : View). v.issued) (c.claim.ensures.claimed c.if-not-claim.false) in
    let three = ap (λ (v : View). v.issued) c.number-state.ensures.seat.1 in
    c.issue.ensures.first o (subst (In (c.issue.result, o)) (sym (one ∙ (two ∙ three))) x)
