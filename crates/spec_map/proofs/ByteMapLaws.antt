-- The place of a key in an ordered map, and how many keys there are.
use Rattle.std.proofs.Common.{◌≡◌, ℕ, ◌+◌, ◌<◌, ◌≤◌, nat_lt, if◌then◌else◌, List, [], ◌∷◌, length, get_or, Some, None, IsSome, suc, add-one, refl, ap, sym, ◌∙◌, arith, inl, inr}
use Rattle.std.proofs.lemmas.Bool.{lt-ltb, le-ltb, eq-eqb, ne_eqb, cases_order, cases_eq, cases_lt, false≢true}
use Rattle.std.specs.List.{insert, remove}
use Rattle.spec_map.specs.Map.{lookup, put, without, Rises}
use Rattle.spec_map.proofs.MapLaws.{lookup-below}

module _ {V : Type 0} where
  -- how many keys are below this one
  abbrev pub count_below : List (ℕ × V) → ℕ → ℕ
  count_below [] k = 0
  count_below (e ∷ es) k = if nat_lt e.0 k then count_below es k + 1 else 0

  -- the pair at that place answers the look-up
  pub lookup-at_place : (a b : ℕ) (es : List (ℕ × V)) (k : ℕ) (d : ℕ × V) → Rises a b es → count_below es k < length es → (get_or es (count_below es k) d).0 ≡ k → lookup es k ≡ Some (get_or es (count_below es k) d).1
  lookup-at_place a b [] k d h l e = absurd (omega arith)
  lookup-at_place a b (x ∷ xs) k d h l e =
      elim (cases_lt x.0 k) [
        | inl less ↦
            let s : count_below (x ∷ xs) k ≡ suc (count_below xs k) = rw (lt-ltb x.0 k less, add-one) in
            let l' = rw s at l in
            rw (s, ne_eqb x.0 k (omega arith)) (lookup-at_place (x.0 + 1) b xs k d h.2 (omega (arith, l')) (rw s at e))
        | inr more ↦ let s : count_below (x ∷ xs) k ≡ 0 = rw (le-ltb x.0 k more) in rw (s, eq-eqb x.0 k (rw s at e))
      ]

  -- the same for an index and a pair that were read
  pub lookup-at_index : (a b : ℕ) (es : List (ℕ × V)) (k i : ℕ) (e : ℕ × V) → Rises a b es → i ≡ count_below es k → i < length es → e ≡ get_or es i e → e.0 ≡ k → lookup es k ≡ Some e.1
  lookup-at_index a b es k i e h p l r s =
      let r' : e ≡ get_or es (count_below es k) e = rw (← p) r in
      lookup-at_place a b es k e h (rw (← p) l) (rw (← r') s) ∙ ap (λ (x : ℕ × V). Some x.1) (sym r')

  -- an insertion of an absent key is one at its place
  pub put-absent : (a b : ℕ) (es : List (ℕ × V)) (k : ℕ) (v : V) → Rises a b es → lookup es k ≡ None → put es k v ≡ insert es (count_below es k) (k, v)
  put-absent a b [] k v h n = refl
  put-absent a b (x ∷ xs) k v h n =
      elim (cases_order x.0 k) [
        | inl same ↦ absurd (let n' = rw (eq-eqb x.0 k same) at n in cc)
        | inr (inl less) ↦
            let n' = rw (ne_eqb x.0 k (omega arith)) at n in
            rw (lt-ltb x.0 k less, add-one) (ap (λ t. x ∷ t) (put-absent (x.0 + 1) b xs k v h.2 n'))
        | inr (inr more) ↦ rw (le-ltb x.0 k (omega arith), ne_eqb x.0 k (omega arith))
      ]

  -- a removal of a present key takes its place out
  pub without-present : (a b : ℕ) (es : List (ℕ × V)) (k : ℕ) (w : V) → Rises a b es → lookup es k ≡ Some w → without es k ≡ remove es (count_below es k)
  without-present a b [] k w h n = absurd (cc)
  without-present a b (x ∷ xs) k w h n =
      elim (cases_order x.0 k) [
        | inl same ↦ rw (le-ltb x.0 k (omega arith), eq-eqb x.0 k same)
        | inr (inl less) ↦
            let n' = rw (ne_eqb x.0 k (omega arith)) at n in
            rw (lt-ltb x.0 k less, add-one, ne_eqb x.0 k (omega arith)) (ap (λ t. x ∷ t) (without-present (x.0 + 1) b xs k w h.2 n'))
        | inr (inr more) ↦
            let n' = rw (ne_eqb x.0 k (omega arith), lookup-below (x.0 + 1) b xs k h.2 (omega arith)) at n in absurd (cc)
      ]

  -- the pair of a present key is at its place
  pub place_present : (a b : ℕ) (es : List (ℕ × V)) (k : ℕ) → Rises a b es → IsSome (lookup es k) → (count_below es k < length es) × ((d : ℕ × V) → lookup es k ≡ Some (get_or es (count_below es k) d).1)
  place_present a b [] k h s = absurd (false≢true s)
  place_present a b (x ∷ xs) k h s =
      elim (cases_order x.0 k) [
        | inl same ↦ rw (le-ltb x.0 k (omega arith), eq-eqb x.0 k same) (omega arith, λ d. refl)
        | inr (inl less) ↦
            let s' = rw (ne_eqb x.0 k (omega arith)) at s in
            let r = place_present (x.0 + 1) b xs k h.2 s' in
            rw (lt-ltb x.0 k less, add-one, ne_eqb x.0 k (omega arith)) (omega (arith, r.0), r.1)
        | inr (inr more) ↦
            let s' = rw (ne_eqb x.0 k (omega arith), lookup-below (x.0 + 1) b xs k h.2 (omega arith)) at s in absurd (false≢true s')
      ]

  pub lookup-at_present : (a b : ℕ) (es : List (ℕ × V)) (k i : ℕ) (e : ℕ × V) → Rises a b es → IsSome (lookup es k) → i ≡ count_below es k → e ≡ get_or es i e → lookup es k ≡ Some e.1
  lookup-at_present a b es k i e h s p r =
      let r' : e ≡ get_or es (count_below es k) e = rw (← p) r in
      (place_present a b es k h s).1 e ∙ ap (λ (x : ℕ × V). Some x.1) (sym r')

  pub without-at_present : (a b : ℕ) (es : List (ℕ × V)) (k i : ℕ) → Rises a b es → IsSome (lookup es k) → i ≡ count_below es k → without es k ≡ remove es i
  without-at_present a b [] k i h s p = absurd (false≢true s)
  without-at_present a b (x ∷ xs) k i h s p = rw p (without-present a b (x ∷ xs) k _ h ((place_present a b (x ∷ xs) k h s).1 x))

  pub length-without_present : (a b : ℕ) (es : List (ℕ × V)) (k : ℕ) → Rises a b es → IsSome (lookup es k) → length (without es k) + 1 ≡ length es
  length-without_present a b [] k h s = absurd (false≢true s)
  length-without_present a b (x ∷ xs) k h s =
      elim (cases_eq x.0 k) [
        | inl same ↦ rw (eq-eqb x.0 k same) (omega arith)
        | inr other ↦ let s' = rw (ne_eqb x.0 k other) at s in rw (ne_eqb x.0 k other) (omega (arith, length-without_present (x.0 + 1) b xs k h.2 s'))
      ]

  -- a range has room for no more keys than numbers
  pub length-from_Rises : (a b : ℕ) (es : List (ℕ × V)) → a ≤ b → Rises a b es → length es + a ≤ b
  length-from_Rises a b [] l h = omega arith
  length-from_Rises a b (e ∷ es) l h = omega (arith, length-from_Rises (e.0 + 1) b es (omega (arith, h.1)) h.2)

  pub length-put_new : (a b : ℕ) (es : List (ℕ × V)) (k : ℕ) (v : V) → Rises a b es → lookup es k ≡ None → length (put es k v) ≡ length es + 1
  length-put_new a b [] k v h n = omega arith
  length-put_new a b (x ∷ xs) k v h n =
      elim (cases_order x.0 k) [
        | inl same ↦ absurd (let n' = rw (eq-eqb x.0 k same) at n in cc)
        | inr (inl less) ↦ let n' = rw (ne_eqb x.0 k (omega arith)) at n in rw (lt-ltb x.0 k less) (omega (arith, length-put_new (x.0 + 1) b xs k v h.2 n'))
        | inr (inr more) ↦ rw (le-ltb x.0 k (omega arith), ne_eqb x.0 k (omega arith)) (omega arith)
      ]

  -- so a map of bytes that lacks one has fewer than 256
  pub length-absent : (a b : ℕ) (es : List (ℕ × V)) (k : ℕ) → Rises a b es → a ≤ k → k < b → lookup es k ≡ None → length es + a < b
  length-absent a b [] k h l m n = omega arith
  length-absent a b (x ∷ xs) k h l m n =
      elim (cases_order x.0 k) [
        | inl same ↦ absurd (let n' = rw (eq-eqb x.0 k same) at n in cc)
        | inr (inl less) ↦ let n' = rw (ne_eqb x.0 k (omega arith)) at n in omega (arith, length-absent (x.0 + 1) b xs k h.2 (omega arith) m n')
        | inr (inr more) ↦ omega (arith, length-from_Rises (x.0 + 1) b xs (omega (arith, h.1)) h.2)
      ]

  pub length-put_some : (a b : ℕ) (es : List (ℕ × V)) (k : ℕ) (v : V) → Rises a b es → IsSome (lookup es k) → length (put es k v) ≡ length es
  length-put_some a b [] k v h s = absurd (false≢true s)
  length-put_some a b (x ∷ xs) k v h s =
      elim (cases_order x.0 k) [
        | inl same ↦ rw (le-ltb x.0 k (omega arith), eq-eqb x.0 k same) refl
        | inr (inl less) ↦ let s' = rw (ne_eqb x.0 k (omega arith)) at s in rw (lt-ltb x.0 k less) (omega (arith, length-put_some (x.0 + 1) b xs k v h.2 s'))
        | inr (inr more) ↦
            let s' = rw (ne_eqb x.0 k (omega arith), lookup-below (x.0 + 1) b xs k h.2 (omega arith)) at s in absurd (false≢true s')
      ]
