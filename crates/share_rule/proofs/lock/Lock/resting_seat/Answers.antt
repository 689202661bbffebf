use Rattle.std.proofs.Common.{[], ap, ◌∙◌, arith}
use Rattle.share_rule.proofs.Moves.{may_enter}
use Rattle.share_rule.proofs.lock.Lock.resting_seat.Goals as goal

pub load-requires : goal.load-requires
load-requires g c =
    let kept = c.self.invariant in let lent = rw c.in_ok-seat.was at c.take-lent.ensures.seat in
    (lent.0 ∙ kept.2, omega (arith, kept.0), may_enter g.S.Protected.same g.S.Protected.content g.S.Protected.place _ c.in_ok-seat.seat.id c.in_ok-seat.seat.me (lent.1 ∙ ap (λ v. (v, [])) kept.3))
