-- The laws of the ordered map.
use Rattle.std.proofs.Common.{◌≡◌, ℕ, ◌+◌, ◌<◌, ◌≤◌, ◌≢◌, cond, eqb, List, [], ◌∷◌, Some, None, refl, ap, sym, subst, ◌∙◌, arith, inl, inr, ◌⊎◌}
use Rattle.std.proofs.lemmas.Bool.{lt-ltb, le-ltb, le-leb, lt-leb, eq-eqb, ne_eqb, cases_order, cases_eq, cases_lt}
use Rattle.spec_map.specs.Map.{lookup, put, without, between, Rises}

module _ {V : Type 0} where
  -- the look-up at the first key, and at any other
  pub lookup-first : (e : ℕ × V) (es : List (ℕ × V)) → lookup (e ∷ es) e.0 ≡ Some e.1
  lookup-first e es = rw (eq-eqb e.0 e.0 refl)

  pub lookup-next : (e : ℕ × V) (es : List (ℕ × V)) (k : ℕ) → e.0 ≢ k → lookup (e ∷ es) k ≡ lookup es k
  lookup-next e es k other = rw (ne_eqb e.0 k other)

  -- a wider range holds too
  pub Rises-wider : (a b c d : ℕ) (es : List (ℕ × V)) → c ≤ a → b ≤ d → Rises a b es → Rises c d es
  Rises-wider a b c d [] p q h = tt
  Rises-wider a b c d (e ∷ es) p q h = (omega arith, omega arith, Rises-wider (e.0 + 1) b (e.0 + 1) d es (omega arith) q h.2)

  -- a key outside the range isn't there
  pub lookup-below : (a b : ℕ) (es : List (ℕ × V)) (k : ℕ) → Rises a b es → k < a → lookup es k ≡ None
  lookup-below a b [] k h p = refl
  lookup-below a b (e ∷ es) k h p = rw (ne_eqb e.0 k (omega arith)) (lookup-below (e.0 + 1) b es k h.2 (omega arith))

  -- before all of the keys
  pub put-below : (b c : ℕ) (ys : List (ℕ × V)) (k : ℕ) (v : V) → Rises b c ys → k < b → put ys k v ≡ (k, v) ∷ ys
  put-below b c [] k v h p = refl
  put-below b c (y ∷ ys) k v h p = rw (le-ltb y.0 k (omega arith), ne_eqb y.0 k (omega arith))

  -- an insertion keeps the order and the range
  pub Rises-put : (a b : ℕ) (es : List (ℕ × V)) (k : ℕ) (v : V) → Rises a b es → a ≤ k → k < b → Rises a b (put es k v)
  Rises-put a b [] k v h p q = (p, q, tt)
  Rises-put a b (e ∷ es) k v h p q =
      elim (cases_order e.0 k) [
        | inl same ↦ rw (le-ltb e.0 k (omega arith), eq-eqb e.0 k same) (p, q, Rises-wider (e.0 + 1) b (k + 1) b es (omega arith) (omega arith) h.2)
        | inr (inl less) ↦ rw (lt-ltb e.0 k less) (h.0, h.1, Rises-put (e.0 + 1) b es k v h.2 (omega arith) q)
        | inr (inr more) ↦ rw (le-ltb e.0 k (omega arith), ne_eqb e.0 k (omega arith)) (p, q, (omega arith, h.1, h.2))
      ]

  -- what is found after an insertion
  pub lookup-put_same : (es : List (ℕ × V)) (k : ℕ) (v : V) → lookup (put es k v) k ≡ Some v
  lookup-put_same [] k v = rw (eq-eqb k k refl)
  lookup-put_same (e ∷ es) k v =
      elim (cases_order e.0 k) [
        | inl same ↦ rw (le-ltb e.0 k (omega arith), eq-eqb e.0 k same, eq-eqb k k refl)
        | inr (inl less) ↦ rw (lt-ltb e.0 k less, ne_eqb e.0 k (omega arith)) (lookup-put_same es k v)
        | inr (inr more) ↦ rw (le-ltb e.0 k (omega arith), ne_eqb e.0 k (omega arith), eq-eqb k k refl)
      ]

  pub lookup-put_other : (es : List (ℕ × V)) (k : ℕ) (v : V) (j : ℕ) → j ≢ k → lookup (put es k v) j ≡ lookup es j
  lookup-put_other [] k v j d = rw (ne_eqb k j (λ e. d (sym e)))
  lookup-put_other (e ∷ es) k v j d =
      elim (cases_order e.0 k) [
        | inl same ↦ rw (le-ltb e.0 k (omega arith), eq-eqb e.0 k same, ne_eqb k j (λ e. d (sym e)), ne_eqb e.0 j (omega arith))
        | inr (inl less) ↦ rw (lt-ltb e.0 k less) (ap (λ o. cond (eqb e.0 j) (Some e.1) o) (lookup-put_other es k v j d))
        | inr (inr more) ↦ rw (le-ltb e.0 k (omega arith), ne_eqb e.0 k (omega arith), ne_eqb k j (λ e. d (sym e)))
      ]

  pub Rises-without : (a b : ℕ) (es : List (ℕ × V)) (k : ℕ) → Rises a b es → Rises a b (without es k)
  Rises-without a b [] k h = tt
  Rises-without a b (x ∷ xs) k h =
      elim (cases_eq x.0 k) [
        | inl same ↦ rw (eq-eqb x.0 k same) (Rises-wider (x.0 + 1) b a b xs (omega arith) (omega arith) h.2)
        | inr other ↦ rw (ne_eqb x.0 k other) (h.0, h.1, Rises-without (x.0 + 1) b xs k h.2)
      ]

  pub lookup-without_same : (a b : ℕ) (es : List (ℕ × V)) (k : ℕ) → Rises a b es → lookup (without es k) k ≡ None
  lookup-without_same a b [] k h = refl
  lookup-without_same a b (x ∷ xs) k h =
      elim (cases_eq x.0 k) [
        | inl same ↦ rw (eq-eqb x.0 k same) (lookup-below (x.0 + 1) b xs k h.2 (omega arith))
        | inr other ↦ rw (ne_eqb x.0 k other, ne_eqb x.0 k other) (lookup-without_same (x.0 + 1) b xs k h.2)
      ]

  -- taking out an absent key changes nothing
  pub without-absent : (es : List (ℕ × V)) (k : ℕ) → lookup es k ≡ None → without es k ≡ es
  without-absent [] k n = refl
  without-absent (x ∷ xs) k n =
      elim (cases_eq x.0 k) [
        | inl same ↦ absurd (let n' = rw (eq-eqb x.0 k same) at n in cc)
        | inr other ↦ let n' = rw (ne_eqb x.0 k other) at n in rw (ne_eqb x.0 k other) (ap (λ t. x ∷ t) (without-absent xs k n'))
      ]

  -- what is found at another key after a removal
  pub lookup-without_other : (es : List (ℕ × V)) (k j : ℕ) → j ≢ k → lookup (without es k) j ≡ lookup es j
  lookup-without_other [] k j d = refl
  lookup-without_other (x ∷ xs) k j d =
      elim (cases_eq x.0 k) [
        | inl same ↦ rw (eq-eqb x.0 k same, ne_eqb x.0 j (omega arith))
        | inr other ↦ rw (ne_eqb x.0 k other) (ap (λ o. cond (eqb x.0 j) (Some x.1) o) (lookup-without_other xs k j d))
      ]

  -- the first pair of those between two keys
  between_inside : (x : ℕ × V) (xs : List (ℕ × V)) (a b : ℕ) → a ≤ x.0 → x.0 < b → between (x ∷ xs) a b ≡ x ∷ between xs a b
  between_inside x xs a b p q = rw (le-leb a x.0 p, lt-ltb x.0 b q)

  between_below : (x : ℕ × V) (xs : List (ℕ × V)) (a b : ℕ) → x.0 < a → between (x ∷ xs) a b ≡ between xs a b
  between_below x xs a b p = rw (lt-leb a x.0 p)

  between_above : (x : ℕ × V) (xs : List (ℕ × V)) (a b : ℕ) → a ≤ x.0 → b ≤ x.0 → between (x ∷ xs) a b ≡ between xs a b
  between_above x xs a b p q = rw (le-leb a x.0 p, le-ltb x.0 b q)

  -- what is found between two keys
  pub lookup-between_inside : (es : List (ℕ × V)) (a b k : ℕ) → a ≤ k → k < b → lookup (between es a b) k ≡ lookup es k
  lookup-between_inside [] a b k p q = refl
  lookup-between_inside (x ∷ xs) a b k p q =
      let ih = lookup-between_inside xs a b k p q in
      elim (cases_lt x.0 a) [
        | inl low ↦ ap (λ m. lookup m k) (between_below x xs a b low) ∙ ih ∙ sym (lookup-next x xs k (omega arith))
        | inr from ↦
            elim (cases_lt x.0 b) [
              | inl to ↦ ap (λ m. lookup m k) (between_inside x xs a b from to) ∙ ap (λ o. cond (eqb x.0 k) (Some x.1) o) ih
              | inr high ↦ ap (λ m. lookup m k) (between_above x xs a b from high) ∙ ih ∙ sym (lookup-next x xs k (omega arith))
            ]
      ]

  -- and outside of them
  pub lookup-between_outside : (es : List (ℕ × V)) (a b k : ℕ) → (k < a) ⊎ (b ≤ k) → lookup (between es a b) k ≡ None
  lookup-between_outside [] a b k p = refl
  lookup-between_outside (x ∷ xs) a b k p =
      let ih = lookup-between_outside xs a b k p in
      elim (cases_lt x.0 a) [
        | inl low ↦ ap (λ m. lookup m k) (between_below x xs a b low) ∙ ih
        | inr from ↦
            elim (cases_lt x.0 b) [
              | inl to ↦
                  let other : x.0 ≢ k = λ e. elim p [ inl less ↦ omega arith | inr more ↦ omega arith ] in
                  ap (λ m. lookup m k) (between_inside x xs a b from to) ∙ lookup-next x (between xs a b) k other ∙ ih
              | inr high ↦ ap (λ m. lookup m k) (between_above x xs a b from high) ∙ ih
            ]
      ]

  -- the pairs between two keys ascend
  pub Rises-between : (low high a b : ℕ) (es : List (ℕ × V)) → Rises low high es → Rises low high (between es a b)
  Rises-between low high a b [] h = tt
  Rises-between low high a b (x ∷ xs) h =
      let ih = Rises-between (x.0 + 1) high a b xs h.2 in
      let skipped = Rises-wider (x.0 + 1) high low high (between xs a b) (omega (arith, h.0)) (omega arith) ih in
      elim (cases_lt x.0 a) [
        | inl less ↦ subst (Rises low high) (sym (between_below x xs a b less)) skipped
        | inr from ↦
            elim (cases_lt x.0 b) [
              | inl to ↦ subst (Rises low high) (sym (between_inside x xs a b from to)) (h.0, h.1, ih)
              | inr more ↦ subst (Rises low high) (sym (between_above x xs a b from more)) skipped
            ]
      ]

  -- two ascending lists with the same look-ups are one list
  pub same_from_lookups : (a b c d : ℕ) (es fs : List (ℕ × V)) → Rises a b es → Rises c d fs → ((k : ℕ) → lookup es k ≡ lookup fs k) → es ≡ fs
  same_from_lookups a b c d [] [] h g same = refl
  same_from_lookups a b c d [] (f ∷ fs) h g same = absurd (let clash = same f.0 ∙ lookup-first f fs in cc)
  same_from_lookups a b c d (e ∷ es) [] h g same = absurd (let clash = sym (same e.0) ∙ lookup-first e es in cc)
  same_from_lookups a b c d ((k, v) ∷ es) ((j, w) ∷ fs) h g same =
      elim (cases_order k j) [
        | inl at ↦
            let found : Some v ≡ Some w = sym (lookup-first (k, v) es) ∙ same k ∙ ap (λ i. lookup ((j, w) ∷ fs) i) at ∙ lookup-first (j, w) fs in
            let value : v ≡ w = cc in
            let rest : (i : ℕ) → lookup es i ≡ lookup fs i = λ i.
            elim (cases_eq k i) [
              | inl here ↦ lookup-below (k + 1) b es i h.2 (omega arith) ∙ sym (lookup-below (j + 1) d fs i g.2 (omega arith))
              | inr other ↦ sym (lookup-next (k, v) es i other) ∙ same i ∙ lookup-next (j, w) fs i (λ e. other (at ∙ e))
            ]
            in
            let tail = same_from_lookups (k + 1) b (j + 1) d es fs h.2 g.2 rest in
            cc
        | inr (inl less) ↦ absurd (let clash = sym (lookup-first (k, v) es) ∙ same k ∙ lookup-below j d ((j, w) ∷ fs) k (omega arith, g.1, g.2) less in cc)
        | inr (inr more) ↦ absurd (let clash = sym (lookup-first (j, w) fs) ∙ sym (same j) ∙ lookup-below k b ((k, v) ∷ es) j (omega arith, h.1, h.2) more in cc)
      ]
