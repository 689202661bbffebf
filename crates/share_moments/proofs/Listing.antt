-- What the calls that list a range enter in the history.
use Rattle.std.proofs.Common.{◌≡◌, ℕ, [], ◌∷◌, length, take, refl, ap, subst, ◌∙◌}
use Rattle.share_rule.specs.inner.Hold.{StepsBy}
use Rattle.share_works.specs.Made.{listing, returned}
use Rattle.share_works.proofs.Writing.{listing_goes}
use Rattle.spec_map.specs.Call.{range, ranged}
use Rattle.spec_map.specs.Map.{Pairs, between}
use Rattle.spec_olc.specs.Runs.{same_number}

module _ (m p : Pairs ℕ) (is : p ≡ m) where
  pub range_here : (start end room : ℕ) → StepsBy same_number (returned (range start end room) (ranged (take room (between p start end))) ∷ []) m m
  range_here start end room = ((refl, ap (λ (l : Pairs ℕ). ranged (take room (between l start end))) is), refl)

  pub listing_here : (start end : ℕ) → StepsBy same_number (listing start end (length p) (between p start end)) m m
  listing_here start end =
      let t = listing_goes same_number (λ (s n : Pairs ℕ). n ≡ s) p p (λ n e. e) refl start end p refl in
      subst (λ (z : Pairs ℕ × Pairs ℕ). StepsBy same_number (listing start end (length p) (between p start end)) z.0 z.1) (λ i. (is i, (t.1 ∙ is) i)) t.2
