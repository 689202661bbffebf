-- How a map goes on by an exchange.
use Rattle.std.proofs.Common.{◌≡◌, ◌≢◌, ℕ, [], ◌∷◌, refl, sym, ap, subst, ◌∙◌, inl, inr}
use Rattle.std.proofs.lemmas.Bool.{cases_eq, eq-eqb, ne_eqb}
use Rattle.std.specs.Prelude.{Option, Some, None, Result, Ok, Err, IfOk}
use Rattle.share_rule.specs.inner.Hold.{StepsBy}
use Rattle.spec_map.specs.Call.{Operation, compare_exchange, exchanged}
use Rattle.spec_map.specs.Legal.{IsLegal, after_exchange, exchange}
use Rattle.spec_map.specs.Map.{Pairs, lookup, with_answer}
use Rattle.spec_map.specs.Refusal.{never}
use Rattle.spec_olc.specs.Runs.{same_number}
use Rattle.share_works.specs.Made.{returned}

module _ (x y : Pairs ℕ) (key expected : ℕ) (desired : Option ℕ) (r : Result (Option ℕ) (Option ℕ)) where
  abbrev Ex : Option ℕ → Result (Option ℕ) (Option ℕ)
  Ex at = exchange same_number at expected desired

  abbrev op : Operation ℕ ℕ ℕ
  op = returned (compare_exchange key expected desired) (exchanged r)

  legal : (v : Result (Option ℕ) (Option ℕ)) → r ≡ v → Ex (lookup x key) ≡ v → y ≡ after_exchange x key v → IsLegal same_number never x (op ∷ []) y
  legal v is ex on = ((refl, ap (λ (w : Result (Option ℕ) (Option ℕ)). exchanged w) (is ∙ sym ex)), on ∙ ap (λ (w : Result (Option ℕ) (Option ℕ)). after_exchange x key w) (sym ex))

  -- an exchange that was made has stored what it was to store
  pub stored_is : (lookup x key ≡ None → (r ≡ Err None) × (y ≡ x))
      → (lookup x key ≡ Some expected → (r ≡ Ok desired) × (y ≡ with_answer x key desired))
      → ((current : ℕ) → lookup x key ≡ Some current → current ≢ expected → (r ≡ Err (Some current)) × (y ≡ x))
      → IfOk r (λ stored. stored ≡ desired)
  stored_is absent same other = at (lookup x key) refl
    where
      by : (v : Result (Option ℕ) (Option ℕ)) → r ≡ v → IfOk v (λ stored. stored ≡ desired) → IfOk r (λ stored. stored ≡ desired)
      by v is h = subst (λ (z : Result (Option ℕ) (Option ℕ)). IfOk z (λ stored. stored ≡ desired)) (sym is) h

      at : (o : Option ℕ) → lookup x key ≡ o → IfOk r (λ stored. stored ≡ desired)
      at None e = by (Err None) (absent e).0 tt
      at (Some current) e =
          elim (cases_eq current expected) [
            | inl is ↦ by (Ok desired) (same (e ∙ ap (λ (n : ℕ). Some n) is)).0 refl
            | inr ne ↦ by (Err (Some current)) (other current e ne).0 tt
          ]

  pub exchange_goes : (lookup x key ≡ None → (r ≡ Err None) × (y ≡ x))
      → (lookup x key ≡ Some expected → (r ≡ Ok desired) × (y ≡ with_answer x key desired))
      → ((current : ℕ) → lookup x key ≡ Some current → current ≢ expected → (r ≡ Err (Some current)) × (y ≡ x))
      → (c : Pairs ℕ) → c ≡ x → (d : Pairs ℕ) × (d ≡ y) × StepsBy same_number (op ∷ []) c d
  exchange_goes absent same other c k =
      (y, refl, subst (λ (z : Pairs ℕ). IsLegal same_number never z (op ∷ []) y) (sym k) (at (lookup x key) refl))
    where
      at : (o : Option ℕ) → lookup x key ≡ o → IsLegal same_number never x (op ∷ []) y
      at None e = let a = absent e in legal (Err None) a.0 (ap Ex e) a.1
      at (Some current) e =
          elim (cases_eq current expected) [
            | inl is ↦
                let a = same (e ∙ ap (λ (n : ℕ). Some n) is) in
                legal (Ok desired) a.0 (ap Ex e ∙ rw (eq-eqb current expected is)) a.1
            | inr ne ↦
                let a = other current e ne in
                legal (Err (Some current)) a.0 (ap Ex e ∙ rw (ne_eqb current expected ne)) a.1
          ]
