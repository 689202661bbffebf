-- What a binary search finds among ascending pairs, and what an edit at that place does.
use Rattle.std.proofs.Common.{◌≡◌, ℕ, zero, suc, ◌+◌, ◌<◌, ◌≤◌, ◌≢◌, [], ◌∷◌, length, get_or, set, Some, None, Result, Ok, Err, IfOk, IfErr, refl, sym, ap, ◌∙◌, arith, inl, inr}
use Rattle.std.specs.List.{insert, remove}
use Rattle.std.specs.List.Sorted.{IsSearchInRange, IsBinarySearchResult, IsNonDecreasingBy}
use Rattle.std.specs.Ordering.{nat_cmp, ordering_index}
use Rattle.std.proofs.lemmas.Cmp.{ranked}
use Rattle.std.proofs.lemmas.Bool.{lt-ltb, le-ltb, eq-eqb, ne_eqb, cases_order}
use Rattle.std.proofs.lemmas.Bool.Decides.{nat_tests}
use Rattle.spec_map.specs.Map.{Pairs, lookup, put, without, Rises}
use Rattle.spec_map.proofs.MapLaws.{lookup-below}
use Rattle.congee_tree.specs.inner.Place.{IsPairAt, IsGapFor}

module _ {P : Type 0} where
  -- a key at a place is in the range
  rises_from : (a b : ℕ) (m : Pairs P) (i : ℕ) (d : ℕ × P) → Rises a b m → i < length m → a ≤ (get_or m i d).0
  rises_from a b [] i d h p = absurd (omega arith)
  rises_from a b (e ∷ m) zero d h p = h.0
  rises_from a b (e ∷ m) (suc i) d h p = omega (arith, h.0, rises_from (e.0 + 1) b m i d h.2 (omega arith))

  -- keys at later places are greater
  rises_on : (a b : ℕ) (m : Pairs P) (i j : ℕ) (d : ℕ × P) → Rises a b m → i < j → j < length m → (get_or m i d).0 < (get_or m j d).0
  rises_on a b [] i j d h l p = absurd (omega arith)
  rises_on a b (e ∷ m) i zero d h l p = absurd (omega arith)
  rises_on a b (e ∷ m) zero (suc j) d h l p = omega (arith, rises_from (e.0 + 1) b m j d h.2 (omega arith))
  rises_on a b (e ∷ m) (suc i) (suc j) d h l p = rises_on (e.0 + 1) b m i j d h.2 (omega arith) (omega arith)

module _ {P : Type 0} (m : Pairs P) (a b : ℕ) (rises : Rises a b m) (k : ℕ) where
  -- the comparisons with k rise along the list, as a binary search requires
  comparisons_rise : IsNonDecreasingBy (λ pair. ordering_index (nat_cmp pair.0 k)) m
  comparisons_rise i j d le in_range =
      elim (cases_order i j) [
        | inl same ↦ rw same (omega arith)
        | inr (inl less) ↦ let keys = rises_on a b m i j d rises less in_range in grind (arith, nat_tests, keys)
        | inr (inr more) ↦ absurd (omega arith)
      ]

  -- a binary search by key ends at the key, or at the gap for it
  pub searched : (r : Result ℕ ℕ) → IsSearchInRange r (length m) → IsBinarySearchResult (λ pair. nat_cmp pair.0 k) m r → record { found : IfOk r (IsPairAt m k); absent : IfErr r (IsGapFor m k) }
  searched (Ok at) in_range equal = record { found = record { in_range = in_range; has_key = λ d. ranked _ k _ (sym (equal d)) }; absent = tt }
  searched (Err at) in_range parted = record {
    found = tt;
    absent = record {
      in_range = in_range;
      smaller_before = λ j d lt. ranked _ k _ (sym ((parted comparisons_rise).0 j d (omega arith) lt));
      greater_after = λ j d le lt. ranked _ k _ (sym ((parted comparisons_rise).1 j d le lt));
    };
  }

module _ {P : Type 0} where
  -- the value at a place
  lookup_at : (a b : ℕ) (m : Pairs P) (k i : ℕ) (d : ℕ × P) → Rises a b m → i < length m → (get_or m i d).0 ≡ k → lookup m k ≡ Some (get_or m i d).1
  lookup_at a b [] k i d h p e = absurd (omega arith)
  lookup_at a b (x ∷ m) k zero d h p e = rw (eq-eqb x.0 k e)
  lookup_at a b (x ∷ m) k (suc i) d h p e =
      let other : x.0 ≢ k = omega (arith, e, rises_from (x.0 + 1) b m i d h.2 (omega arith)) in
      rw (ne_eqb x.0 k other) (lookup_at (x.0 + 1) b m k i d h.2 (omega arith) e)

  -- a write at a place
  put_at : (a b : ℕ) (m : Pairs P) (k i : ℕ) (d : ℕ × P) (v : P) → Rises a b m → i < length m → (get_or m i d).0 ≡ k → put m k v ≡ set m i (k, v)
  put_at a b [] k i d v h p e = absurd (omega arith)
  put_at a b (x ∷ m) k zero d v h p e = rw (le-ltb x.0 k (omega arith), eq-eqb x.0 k e)
  put_at a b (x ∷ m) k (suc i) d v h p e =
      let less : x.0 < k = omega (arith, e, rises_from (x.0 + 1) b m i d h.2 (omega arith)) in
      rw (lt-ltb x.0 k less) (ap (λ t. x ∷ t) (put_at (x.0 + 1) b m k i d v h.2 (omega arith) e))

  -- a removal at a place
  without_at : (a b : ℕ) (m : Pairs P) (k i : ℕ) (d : ℕ × P) → Rises a b m → i < length m → (get_or m i d).0 ≡ k → without m k ≡ remove m i
  without_at a b [] k i d h p e = absurd (omega arith)
  without_at a b (x ∷ m) k zero d h p e = rw (eq-eqb x.0 k e)
  without_at a b (x ∷ m) k (suc i) d h p e =
      let other : x.0 ≢ k = omega (arith, e, rises_from (x.0 + 1) b m i d h.2 (omega arith)) in
      rw (ne_eqb x.0 k other) (ap (λ t. x ∷ t) (without_at (x.0 + 1) b m k i d h.2 (omega arith) e))

  -- without the first pair
  gap_next : (x : ℕ × P) (m : Pairs P) (k at : ℕ) → IsGapFor (x ∷ m) k (suc at) → IsGapFor m k at
  gap_next x m k at gap = record {
    in_range = omega (arith, gap.in_range);
    smaller_before = λ j d lt. gap.smaller_before (suc j) d (omega arith);
    greater_after = λ j d le lt. gap.greater_after (suc j) d (omega arith) (omega arith);
  }

  -- a key that has a gap is not found
  pub lookup_in_gap : (a b : ℕ) (m : Pairs P) (k at : ℕ) → Rises a b m → IsGapFor m k at → lookup m k ≡ None
  lookup_in_gap a b [] k at h gap = refl
  lookup_in_gap a b (x ∷ m) k zero h gap = let more = gap.greater_after 0 x (omega arith) (omega arith) in lookup-below x.0 b (x ∷ m) k (omega arith, h.1, h.2) more
  lookup_in_gap a b (x ∷ m) k (suc at) h gap =
      let less : x.0 < k = gap.smaller_before 0 x (omega arith) in
      rw (ne_eqb x.0 k (omega arith)) (lookup_in_gap (x.0 + 1) b m k at h.2 (gap_next x m k at gap))

  -- a new pair in the gap
  pub put_in_gap : (m : Pairs P) (k at : ℕ) (v : P) → IsGapFor m k at → put m k v ≡ insert m at (k, v)
  put_in_gap [] k zero v gap = refl
  put_in_gap [] k (suc at) v gap = absurd (omega (arith, gap.in_range))
  put_in_gap (x ∷ m) k zero v gap =
      let more : k < x.0 = gap.greater_after 0 x (omega arith) (omega arith) in
      rw (le-ltb x.0 k (omega arith), ne_eqb x.0 k (omega arith))
  put_in_gap (x ∷ m) k (suc at) v gap =
      let less : x.0 < k = gap.smaller_before 0 x (omega arith) in
      rw (lt-ltb x.0 k less) (ap (λ t. x ∷ t) (put_in_gap m k at v (gap_next x m k at gap)))

  -- a pair that was read at a place that was found is the key's
  pub lookup_found : (a b : ℕ) (m : Pairs P) (k i : ℕ) (e : ℕ × P) → Rises a b m → IsPairAt m k i → e ≡ get_or m i e → lookup m k ≡ Some e.1
  lookup_found a b m k i e h at read =
      lookup_at a b m k i e h at.in_range (at.has_key e) ∙ ap (λ (x : ℕ × P). Some x.1) (sym read)

  -- a write there is one of the whole map
  pub put_found : (a b : ℕ) (m : Pairs P) (k i : ℕ) (e : ℕ × P) (v : P) → Rises a b m → IsPairAt m k i → put m k v ≡ set m i (k, v)
  put_found a b m k i e v h at = put_at a b m k i e v h at.in_range (at.has_key e)

  -- and so is a removal
  pub without_found : (a b : ℕ) (m : Pairs P) (k i : ℕ) (e : ℕ × P) → Rises a b m → IsPairAt m k i → without m k ≡ remove m i
  without_found a b m k i e h at = without_at a b m k i e h at.in_range (at.has_key e)
