-- Maps whose pairs come one part after the other.
use Rattle.std.proofs.Common.{◌≡◌, ℕ, ◌+◌, ◌<◌, ◌≤◌, cond, eqb, List, [], ◌∷◌, ◌++◌, Some, None, refl, ap, arith, inl, inr}
use Rattle.std.proofs.lemmas.Bool.{lt-ltb, le-ltb, eq-eqb, ne_eqb, cases_order}
use Rattle.spec_map.specs.Map.{lookup, put, Rises}
use Rattle.spec_map.proofs.MapLaws.{Rises-wider, lookup-below, put-below}

module _ {V : Type 0} where
  pub Rises-append : (a b c : ℕ) (xs ys : List (ℕ × V)) → a ≤ b → b ≤ c → Rises a b xs → Rises b c ys → Rises a c (xs ++ ys)
  Rises-append a b c [] ys p q h k = Rises-wider b c a c ys p (omega arith) k
  Rises-append a b c (x ∷ xs) ys p q h k =
      (h.0, omega arith, Rises-append (x.0 + 1) b c xs ys (omega arith) q h.2 k)

  pub lookup-above : (a b : ℕ) (es : List (ℕ × V)) (k : ℕ) → Rises a b es → b ≤ k → lookup es k ≡ None
  lookup-above a b [] k h p = refl
  lookup-above a b (e ∷ es) k h p = rw (ne_eqb e.0 k (omega arith)) (lookup-above (e.0 + 1) b es k h.2 p)

  pub lookup-append_left : (b c : ℕ) (xs ys : List (ℕ × V)) (k : ℕ) → Rises b c ys → k < b → lookup (xs ++ ys) k ≡ lookup xs k
  lookup-append_left b c [] ys k h p = lookup-below b c ys k h p
  lookup-append_left b c (x ∷ xs) ys k h p = ap (λ o. cond (eqb x.0 k) (Some x.1) o) (lookup-append_left b c xs ys k h p)

  pub lookup-append_right : (a b : ℕ) (xs ys : List (ℕ × V)) (k : ℕ) → Rises a b xs → b ≤ k → lookup (xs ++ ys) k ≡ lookup ys k
  lookup-append_right a b [] ys k h p = refl
  lookup-append_right a b (x ∷ xs) ys k h p = rw (ne_eqb x.0 k (omega arith)) (lookup-append_right (x.0 + 1) b xs ys k h.2 p)

  pub put-append_right : (a b : ℕ) (xs ys : List (ℕ × V)) (k : ℕ) (v : V) → Rises a b xs → b ≤ k → put (xs ++ ys) k v ≡ xs ++ put ys k v
  put-append_right a b [] ys k v h p = refl
  put-append_right a b (x ∷ xs) ys k v h p = rw (lt-ltb x.0 k (omega arith)) (ap (λ t. x ∷ t) (put-append_right (x.0 + 1) b xs ys k v h.2 p))

  pub put-append_left : (b c : ℕ) (xs ys : List (ℕ × V)) (k : ℕ) (v : V) → Rises b c ys → k < b → put (xs ++ ys) k v ≡ put xs k v ++ ys
  put-append_left b c [] ys k v h p = put-below b c ys k v h p
  put-append_left b c (x ∷ xs) ys k v h p =
      elim (cases_order x.0 k) [
        | inl same ↦ rw (le-ltb x.0 k (omega arith), eq-eqb x.0 k same)
        | inr (inl less) ↦ rw (lt-ltb x.0 k less) (ap (λ t. x ∷ t) (put-append_left b c xs ys k v h p))
        | inr (inr more) ↦ rw (le-ltb x.0 k (omega arith), ne_eqb x.0 k (omega arith))
      ]
