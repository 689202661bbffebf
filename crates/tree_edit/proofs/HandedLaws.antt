-- What is handed on while pairs between two keys are removed.
use Rattle.std.proofs.Common.{◌≡◌, ◌≢◌, ℕ, ◌+◌, ◌<◌, ◌≤◌, ◌^◌, [], ◌∷◌, Option, Some, None, refl, ap, sym, subst, ◌∙◌, arith, inl, inr}
use Rattle.std.specs.List.{FoldsTo}
use Rattle.std.proofs.lemmas.Bool.{lt-ltb, le-leb, lt-leb, eq-eqb, ne_eqb, cases_order}
use Rattle.spec_map.specs.Map.{Pairs, IsMap, lookup, without, between, Rises}
use Rattle.spec_map.proofs.MapLaws.{lookup-first, lookup-next, lookup-below, lookup-without_same, lookup-without_other}
use Rattle.tree_edit.specs.Calls.{Calls, HasNoneAfter}

module _ {P : Type 0} where
  -- a key that none comes before is the first of those between
  pub first_there : (a : ℕ) (m : Pairs P) (s e k : ℕ) (v : P) → Rises a (2 ^ 64) m → s ≤ k → k < e → Some v ≡ lookup m k → HasNoneAfter m s k → between m s e ≡ (k, v) ∷ between (without m k) s e
  first_there a [] s e k v h from below found none = absurd (cc)
  first_there a (x ∷ xs) s e k v h from below found none =
      elim (cases_order x.0 k) [
        | inl same ↦
            let value : Some v ≡ Some x.1 = rw (eq-eqb x.0 k same) at found in
            let equal : x.1 ≡ v = cc in
            rw (eq-eqb x.0 k same, le-leb s x.0 (omega (arith, same, from)), lt-ltb x.0 e (omega (arith, same, below))) (ap (λ (y : ℕ × P). y ∷ between xs s e) (λ i. (same i, equal i)))
        | inr (inl less) ↦
            let other : x.0 ≢ k = omega (arith, less) in
            let before : x.0 < s = elim (cases_order x.0 s) [
              | inl same ↦ absurd (let clash : ◌≡◌ {A = Option P} None (Some x.1) = sym (none x.0 (omega (arith, same)) less) ∙ lookup-first x xs in cc)
              | inr (inl before) ↦ before
              | inr (inr past) ↦ absurd (let clash : ◌≡◌ {A = Option P} None (Some x.1) = sym (none x.0 (omega (arith, past)) less) ∙ lookup-first x xs in cc)
            ] in
            rw (ne_eqb x.0 k other, lt-leb s x.0 before)
            (first_there (x.0 + 1) xs s e k v h.2 from below (rw (ne_eqb x.0 k other) at found) (λ j past short. sym (lookup-next x xs j (omega (arith, before, past))) ∙ none j past short))
        | inr (inr more) ↦
            let other : x.0 ≢ k = omega (arith, more) in
            let further : Some v ≡ lookup xs k = rw (ne_eqb x.0 k other) at found in
            absurd (let clash : ◌≡◌ {A = Option P} (Some v) None = further ∙ lookup-below (x.0 + 1) (2 ^ 64) xs k h.2 (omega (arith, more)) in cc)
      ]

  -- where it goes, none is from it on to the next one
  pub none_next : (m : Pairs P) (k t : ℕ) → IsMap m → HasNoneAfter m (k + 1) t → HasNoneAfter (without m k) k t
  none_next m k t h none = λ j from below. elim (cases_order j k) [
    | inl same ↦ subst (λ i. lookup (without m k) i ≡ None) (sym same) (lookup-without_same 0 (2 ^ 64) m k h)
    | inr (inl less) ↦ absurd (omega (arith, less, from))
    | inr (inr more) ↦ lookup-without_other m k j (omega (arith, more)) ∙ none j (omega (arith, more)) below
  ]

  -- so none comes before the next one
  pub none_then : (m : Pairs P) (s k t : ℕ) → HasNoneAfter m s k → HasNoneAfter (without m k) k t → HasNoneAfter (without m k) s t
  none_then m s k t first second = λ j from below. elim (cases_order j k) [
    | inl same ↦ second j (omega (arith, same)) below
    | inr (inl less) ↦ lookup-without_other m k j (omega (arith, less)) ∙ first j from less
    | inr (inr more) ↦ second j (omega (arith, more)) below
  ]

  pub none_left : (m n : Pairs P) (s k t : ℕ) → n ≡ without m k → HasNoneAfter m s k → HasNoneAfter n k t → HasNoneAfter n s t
  none_left m n s k t is first second =
      subst (λ (l : Pairs P). HasNoneAfter l s t) (sym is) (none_then m s k t first (subst (λ (l : Pairs P). HasNoneAfter l k t) is second))

  module _ {F : Type 0} (step : F → ℕ × P → F → Type 0) (s e : ℕ) (f : F) (m : Pairs P) (g : F) (n : Pairs P) (calls : Calls step s e f m g n) where
    -- one more
    pub calls_more : (k : ℕ) (v : P) (h : F) (o : Pairs P) → IsMap n → s ≤ k → k < e → Some v ≡ lookup n k → HasNoneAfter n s k → step g (k, v) h → o ≡ without n k → Calls step s e f m h o
    calls_more k v h o ordered from below found none called is = λ last left.
        calls last (subst (λ (t : Pairs P). FoldsTo step g t last) (sym (first_there 0 n s e k v ordered from below found none))
        (h, called, subst (λ (t : Pairs P). FoldsTo step h (between t s e) last) is left))
