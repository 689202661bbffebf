-- Storing a key's current value again.
use Rattle.std.proofs.Common.{◌≡◌, ℕ, ◌+◌, ◌^◌, List, [], ◌∷◌, Some, ap, ◌∙◌, sym, inl, inr, arith}
use Rattle.std.proofs.lemmas.Bool.{lt-ltb, le-ltb, eq-eqb, ne_eqb, cases_order}
use Rattle.spec_map.specs.Map.{lookup, put, Rises, IsMap}
use Rattle.spec_map.proofs.MapLaws.{lookup-below}

module _ {V : Type 0} where
  -- the map is unchanged
  pub put-current : (low high : ℕ) (es : List (ℕ × V)) (k : ℕ) (v : V) → Rises low high es → lookup es k ≡ Some v → put es k v ≡ es
  put-current low high [] k v h is = absurd (cc)
  put-current low high (x ∷ xs) k v h is =
      elim (cases_order x.0 k) [
        | inl same ↦
            let here : Some x.1 ≡ Some v = rw (eq-eqb x.0 k same) at is in
            let value : x.1 ≡ v = cc in
            rw (le-ltb x.0 k (omega arith), eq-eqb x.0 k same) (ap (λ (e : ℕ × V). e ∷ xs) (λ i. (sym same i, sym value i)))
        | inr (inl less) ↦
            let rest = rw (ne_eqb x.0 k (omega arith)) at is in
            rw (lt-ltb x.0 k less) (ap (λ t. x ∷ t) (put-current (x.0 + 1) high xs k v h.2 rest))
        | inr (inr more) ↦
            let none = rw (ne_eqb x.0 k (omega arith), lookup-below (x.0 + 1) high xs k h.2 (omega arith)) at is in absurd (cc)
      ]

  -- and so is a map after a `put` of that value
  pub put_again : (m n : List (ℕ × V)) (k : ℕ) (v : V) → IsMap m → lookup m k ≡ Some v → n ≡ put m k v → n ≡ m
  put_again m n k v h is again = again ∙ put-current 0 (2 ^ 64) m k v h is
