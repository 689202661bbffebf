use Rattle.std.proofs.Common.{◌≡◌, ℕ, [], Option, None, inl, inr, sym, ap, ◌∙◌, subst}
use Rattle.spec_map.specs.Map.{Pairs}
use Rattle.live_faces.specs.Iterated.{HasTurned, iterated}
use Rattle.live_faces.proofs.typed_congee.iter.IterIterator.next.Given.{Over}
use Rattle.live_faces.proofs.typed_congee.iter.IterIterator.next.Goals as goal
use Rattle.live_faces.proofs.typed_congee.iter.IterIterator.next.Goals.{After-pop-2, then-self, else-self}

-- THE NEXT PAGE was read
module _ (g : Over) (c : After-pop-2 g) where
  same_way : c.self.inside.up ≡ c.if-self.self-inside.up
  same_way = elim c.if-self.branch [
    | then-self w ↦ sym (ap (λ z. z.up) w.self-inside-is)
    | else-self w ↦ sym (ap (λ z. z.up) w.self-inside-is)
  ]

  turned : HasTurned c.if-self.self-inside.up c.in_ok-low.low c.in_ok-low.last c.self.inside.guard c.if-self.self-inside.page c.if-self.self c.if-self.self-inside.guard
  turned = elim c.if-self.branch [
    | then-self w ↦ rw (w.self-is, w.self-inside-is, w.if-self.true) w.turn_up-self-inside.ensures.turned
    | else-self w ↦ rw (w.self-is, w.self-inside-is, w.if-self.false) w.turn_down-self-inside.ensures.turned
  ]

  ends : c.if-self.self-inside.page ≡ [] → c.if-self.self ≡ None
  ends empty = elim c.if-self.branch [
    | then-self w ↦ w.self-is ∙ w.turn_up-self-inside.ensures.ends (sym (ap (λ z. z.page) w.self-inside-is) ∙ empty)
    | else-self w ↦ w.self-is ∙ w.turn_down-self-inside.ensures.ends (sym (ap (λ z. z.page) w.self-inside-is) ∙ empty)
  ]

pub returns-in-Some-clause-steps : goal.returns-in-Some-clause-steps
returns-in-Some-clause-steps g c =
    let i = c.self.inside in
    let now = sym c.self.view_is in (
      ap (λ z. z.up) now,
      ((c.in-Some.key, c.in-Some.value), (λ j. (c.from_u64.ensures j, c.from_u64-in-Some.ensures j)), inl (now ∙ ap (λ (z : Pairs ℕ). iterated i.up i.guard z i.unread) c.in-Some.ensures.some)),
    )

pub returns-in_err-key-clause-steps : goal.returns-in_err-key-clause-steps
returns-in_err-key-clause-steps g c =
    let d = (goal.at.returns-in_err-key-clause-steps g c).After-pop-2 in
    let none = c.in_err-key.ensures.none in
    let page = c.in_default.ensures.none in
    let empty : Pairs ℕ → Type 0 = λ z. HasTurned c.if-self.self-inside.up c.in_ok-low.low c.in_ok-low.last c.self.inside.guard z c.if-self.self c.if-self.self-inside.guard in
    let ended : Option (ℕ × ℕ) → Type 0 = λ z. HasTurned c.if-self.self-inside.up c.in_ok-low.low c.in_ok-low.last c.self.inside.guard [] z c.if-self.self-inside.guard in
    rw (← c.self.view_is, c.from_residual-in_err-key.ensures)
    (same_way g d, none.1, ends g d none.0, inr ((c.in_ok-low.low, c.in_ok-low.last), page.0, c.in_ok-low.was, subst ended (ends g d none.0) (subst empty none.0 (turned g d))))

pub returns-clause-steps : goal.returns-clause-steps
returns-clause-steps g c =
    let d = (goal.at.returns-clause-steps g c).After-pop-2 in
    let page = c.in_default.ensures.none in
    let full : Pairs ℕ → Type 0 = λ z. HasTurned c.if-self.self-inside.up c.in_ok-low.low c.in_ok-low.last c.self.inside.guard z c.if-self.self c.if-self.self-inside.guard in
    rw (← c.self.view_is)
    (same_way g d, ((c.in_ok-key.key, c.in_ok-key.value), (λ j. (c.from_u64-2.ensures j, c.from_u64-3.ensures j)), inr ((c.in_ok-low.low, c.in_ok-low.last), page.0, c.in_ok-low.was, subst full c.in_ok-key.ensures.some (turned g d))))
