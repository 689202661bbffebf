use Rattle.std.proofs.Common.{◌≡◌, ◌∙◌, IsSomeAnd, Some, None, sym, ap, subst}
use Rattle.std.proofs.Math.Logic.{∥∥₁_elim}
use Rattle.word_slots.proofs.lent.Lent.get.Goals as goal

pub unreachable-requires : goal.unreachable-requires
unreachable-requires g c =
    let l = c.self.inside in
    let e : l.claim.value ≡ Some None = sym c.get.ensures.0 ∙ ap (λ x. Some x) c.in-None.is in
    ∥∥₁_elim l.filled (λ x y. absurd x) (λ h. subst (λ v. IsSomeAnd v (λ found. IsSomeAnd found (λ it. it.ticket ≡ l.ticket))) e h)
