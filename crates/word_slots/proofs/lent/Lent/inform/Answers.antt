use Rattle.std.proofs.Common.{◌≡◌, ◌∙◌, IsSomeAnd, IfSome, Some, None, sym, ap, subst, slice_get}
use Rattle.std.proofs.Math.Logic.{∥∥₁_elim}
use Rattle.std.specs.Coded.{Coded-set, coded_ℕ}
use Rattle.word_slots.specs.declared.log.LogEntry.TheVariants.{Issued}
use Rattle.word_slots.specs.Tickets.{HasIssued}
use Rattle.word_slots.specs.Slots.{WasIssued, value_in}
use Rattle.word_slots.proofs.Logs.{get_prefix}
use Rattle.word_slots.proofs.lent.Lent.inform.Goals as goal

pub unreachable-requires : goal.unreachable-requires
unreachable-requires g c =
    let l = c.self.inside in
    let e : l.claim.value ≡ Some None = sym c.get.ensures.0 ∙ ap (λ x. Some x) c.in-None.is in
    ∥∥₁_elim l.filled (λ x y. absurd x) (λ h. subst (λ v. IsSomeAnd v (λ found. IsSomeAnd found (λ it. it.ticket ≡ l.ticket))) e h)

pub returns-clause-issued : goal.returns-clause-issued
returns-clause-issued g c =
    let l = c.self.inside in
    let it = c.in-Some.found in
    let value = it.value in
    let e : l.claim.value ≡ Some (Some it) = sym c.get.ensures.0 ∙ ap (λ x. Some x) c.in-Some.is in
    let same : it.ticket ≡ l.ticket = ∥∥₁_elim l.filled (Coded-set coded_ℕ _ _) (λ h. subst (λ v. IsSomeAnd v (λ found. IsSomeAnd found (λ k. k.ticket ≡ l.ticket))) e h) in
    let issued : WasIssued l.claim.tag.book it.seen.book it.seen.log it.ticket value = subst (λ v. IfSome v (λ k. WasIssued l.claim.tag.book k.seen.book k.seen.log k.ticket k.value)) c.in-Some.is c.get.ensures.1 in
    let h : HasIssued it.seen.log it.ticket value = issued.1 in
    let named : it.ticket ≡ c.args.self.now.ticket = same ∙ ap (λ x. x.ticket) c.self.view_is in (
      value,
      sym (ap (λ x. x.value) c.self.view_is) ∙ ap value_in e,
      (h.0, get_prefix it.seen.log c.learn.new.self.log c.learn.ensures.3 h.0 (Issued c.args.self.now.ticket value) (subst (λ t. slice_get it.seen.log h.0 ≡ Some (Issued t value)) named h.1)),
    )
