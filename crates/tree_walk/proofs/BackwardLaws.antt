-- The last of the children that are left.
use Rattle.std.proofs.Common.{◌≡◌, ℕ, zero, suc, ◌+◌, ◌-◌, ◌^◌, ◌<◌, ◌≤◌, List, [], ◌∷◌, ◌++◌, length, drop, min, slice_get, Option, Some, None, refl, ap, sym, ◌∙◌, arith, inl, inr}
use Rattle.std.proofs.lemmas.Bool.{cases_lt}
use Rattle.std.proofs.lemmas.Option.{slice_get_past}
use Rattle.node_base.specs.inner.Few.{listed}
use Rattle.node_base.specs.inner.Row.{under}
use Rattle.node_base.specs.inner.Sorted.{pairs}
use Rattle.node_base.specs.declared.few.Few.{Few}
use Rattle.node_base.specs.declared.few.Few.TheVariants.{Zero, One, Two, Three, Four}
use Rattle.node_base.proofs.RowLaws.{scan-found, scan-none, scan-end, scan-nothing}

module _ {C : Type 0} where
  -- one byte more, and the child beside it
  pub pairs_more : (ks : List ℕ) (k : ℕ) (cs : List C) (c : C) → slice_get cs (length ks) ≡ Some c → pairs (ks ++ k ∷ []) cs ≡ pairs ks cs ++ (k, c) ∷ []
  pairs_more [] k [] c is = absurd (cc)
  pairs_more [] k (d ∷ cs) c is = let same : d ≡ c = cc in ap (λ x. (k, x) ∷ []) same
  pairs_more (x ∷ ks) k [] c is = absurd (cc)
  pairs_more (x ∷ ks) k (d ∷ cs) c is = ap (λ t. (x, d) ∷ t) (pairs_more ks k cs c is)

  -- a byte past the children
  pub pairs_same : (ks : List ℕ) (k : ℕ) (cs : List C) → slice_get cs (length ks) ≡ None → pairs (ks ++ k ∷ []) cs ≡ pairs ks cs
  pairs_same [] k [] none = refl
  pairs_same [] k (d ∷ cs) none = absurd (cc)
  pairs_same (x ∷ ks) k [] none = refl
  pairs_same (x ∷ ks) k (d ∷ cs) none = ap (λ t. (x, d) ∷ t) (pairs_same ks k cs none)

  four_at_most : (row : Few C) → length (listed row) ≤ 4
  four_at_most Zero = omega arith
  four_at_most (One a) = omega arith
  four_at_most (Two a b) = omega arith
  four_at_most (Three a b c) = omega arith
  four_at_most (Four a b c d) = omega arith

  get_dropped : (a n : ℕ) (cs : List C) → slice_get (drop a cs) n ≡ slice_get cs (a + n)
  get_dropped zero n cs = let same : n ≡ 0 + n = omega arith in ap (λ j. slice_get cs j) same
  get_dropped (suc a) n [] = refl
  get_dropped (suc a) n (c ∷ cs) = let same : suc (a + n) ≡ suc a + n = omega arith in get_dropped a n cs ∙ ap (λ j. slice_get (c ∷ cs) j) same

  -- a child of few, from a place on
  pub few_from : (row : Few C) (at n i : ℕ) → i ≡ min (at + n) (2 ^ 64 - 1) → slice_get (drop at (listed row)) n ≡ slice_get (listed row) i
  few_from row at n i is =
      let most = four_at_most row in
      get_dropped at n (listed row)
      ∙ elim (cases_lt (at + n) (2 ^ 64)) [
        | inl less ↦ let same : at + n ≡ i = omega (arith, is, less) in ap (λ j. slice_get (listed row) j) same
        | inr past ↦ slice_get_past (listed row) (at + n) (omega (arith, most, past)) ∙ sym (slice_get_past (listed row) i (omega (arith, most, is, past)))
      ]

module _ {C : Type 0} (has : ℕ → Option C) where
  split_at : (n b d e : ℕ) → b + n ≡ d → d ≤ e → under has b (e - b) ≡ under has b (d - b) ++ under has d (e - d)
  split_at zero b d e is l =
      let same : b ≡ d = omega (arith, is) in ap (λ x. under has x (e - x)) same ∙ ap (λ t. t ++ under has d (e - d)) (sym (scan-end has b d (omega (arith, is))))
  split_at (suc n) b d e is l = go (has b) refl (split_at n (b + 1) d e (omega (arith, is)) l)
    where
      go : (o : Option C) → has b ≡ o → under has (b + 1) (e - (b + 1)) ≡ under has (b + 1) (d - (b + 1)) ++ under has d (e - d) → under has b (e - b) ≡ under has b (d - b) ++ under has d (e - d)
      go (Some c) h rest =
          scan-found has b e c (omega (arith, is)) h ∙ ap (λ t. (b, c) ∷ t) rest ∙ ap (λ t. t ++ under has d (e - d)) (sym (scan-found has b d c (omega (arith, is)) h))
      go None h rest = scan-none has b e (omega (arith, is)) h ∙ rest ∙ ap (λ t. t ++ under has d (e - d)) (sym (scan-none has b d (omega (arith, is)) h))

  -- the last byte with a child, and those before it
  pub scan-last : (b d e : ℕ) (c : C) → b ≤ d → d < e → has d ≡ Some c → ((i : ℕ) → d < i → i < e → has i ≡ None) → under has b (e - b) ≡ under has b (d - b) ++ (d, c) ∷ []
  scan-last b d e c from to here after =
      split_at (d - b) b d e (omega arith) (omega arith)
      ∙ ap (λ t. under has b (d - b) ++ t) (scan-found has d e c to here ∙ ap (λ t. (d, c) ∷ t) (scan-nothing has (d + 1) e (λ i l m. after i (omega arith) m)))
