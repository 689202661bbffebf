-- How a map goes on by a call that puts the new value together from the current one.
use Rattle.std.proofs.Common.{◌≡◌, ℕ, [], ◌∷◌, refl, sym, ap, subst, ◌∙◌}
use Rattle.std.specs.Prelude.{Option, Result, Ok, Err, IfOk, OnOk, OnErr}
use Rattle.share_calls.specs.Computed.{computed_from}
use Rattle.share_calls.specs.inner.Attempts.{computation}
use Rattle.share_rule.specs.inner.Hold.{StepsBy}
use Rattle.spec_map.specs.Legal.{IsLegal}
use Rattle.spec_map.specs.Map.{Pairs, lookup, put}
use Rattle.spec_map.specs.Refusal.{never}
use Rattle.spec_olc.specs.Runs.{same_number}

module _ (x y : Pairs ℕ) (key : ℕ) (value_of : Option ℕ → ℕ) where
  legal : (before : Option ℕ) → lookup x key ≡ before → y ≡ put x key (value_of before) → IsLegal same_number never x (computed_from key before (value_of before) ∷ []) y
  legal before is on =
      subst (λ (o : Option ℕ). y ≡ put x key (value_of o) → IsLegal same_number never x (computed_from key o (value_of o) ∷ []) y) is
      (λ e. (((value_of (lookup x key), refl), refl), e)) on

  at : {E : Type 0} (r : Result (Option ℕ) E) → IfOk r (λ before. before ≡ lookup x key) → OnOk r (y ≡ put x key (value_of (lookup x key))) → OnErr r (y ≡ x) → IsLegal same_number never x (computation key value_of r) y
  at (Ok before) is ok err = legal before (sym is) (ok ∙ ap (λ (o : Option ℕ). put x key (value_of o)) (sym is))
  at (Err e) is ok err = err

  pub computation_goes : {E : Type 0} (r : Result (Option ℕ) E) → IfOk r (λ before. before ≡ lookup x key) → OnOk r (y ≡ put x key (value_of (lookup x key))) → OnErr r (y ≡ x)
      → (c : Pairs ℕ) → c ≡ x → (d : Pairs ℕ) × (d ≡ y) × StepsBy same_number (computation key value_of r) c d
  computation_goes r is ok err c k =
      (y, refl, subst (λ (z : Pairs ℕ). IsLegal same_number never z (computation key value_of r) y) (sym k) (at r is ok err))
