-- The greatest byte below another that has a child.
use Rattle.std.proofs.Common.{◌≡◌, ℕ, zero, suc, ◌+◌, ◌-◌, ◌<◌, ◌≤◌, List, [], ◌∷◌, length, get_or, take, slice_index, Option, Some, None, IsSome, IfSome, IfNone, option_map, refl, ap, sym, ◌∙◌, arith, inl, inr}
use Rattle.std.proofs.lemmas.Bool.{lt-ltb, le-ltb, cases_lt}
use Rattle.std.proofs.lemmas.Option.{slice_get_past}
use Rattle.spec_map.specs.Map.{lookup}
use Rattle.spec_map.specs.Near.{last_of, below_of}
use Rattle.spec_map.proofs.ByteMapLaws.{count_below}
use Rattle.spec_map.proofs.NearLaws.{below_at, none_below}
use Rattle.node_base.specs.inner.Sorted.{below, pairs, IsSorted}
use Rattle.node_base.specs.inner.Row.{at_place, under, in_row, IsRow}
use Rattle.node_base.proofs.RowLaws.{under-rises, lookup-under, row-lookup, row-present}
use Rattle.node_forms.proofs.SortedLaws.{enough_bytes, length-sorted, place_is, between-take}

module _ {C : Type 0} where
  last_byte-take : (ks : List ℕ) (cs : List C) (j : ℕ) → length cs ≤ length ks → j < length cs → option_map (λ p. p.0) (last_of (take (suc j) (pairs ks cs))) ≡ Some (get_or ks j 0)
  last_byte-take ks [] j l m = absurd (omega arith)
  last_byte-take [] (c ∷ cs) j l m = absurd (omega arith)
  last_byte-take (k ∷ ks) (c ∷ cs) zero l m = refl
  last_byte-take (k ∷ ks) (c ∷ []) (suc j) l m = absurd (omega arith)
  last_byte-take (k ∷ []) (c ∷ d ∷ cs) (suc j) l m = absurd (omega arith)
  last_byte-take (k ∷ n ∷ ks) (c ∷ d ∷ cs) (suc j) l m = last_byte-take (n ∷ ks) (d ∷ cs) j (omega arith) (omega arith)

  count_within : (es : List (ℕ × C)) (k : ℕ) → count_below es k ≤ length es
  count_within [] k = omega arith
  count_within (x ∷ xs) k =
      elim (cases_lt x.0 k) [
        | inl less ↦ rw (lt-ltb x.0 k less) (omega (arith, count_within xs k))
        | inr more ↦ rw (le-ltb x.0 k more) (omega arith)
      ]

-- in a sorted node, by the place of the limit
module _ {C : Type 0} {most : ℕ} {ks : List ℕ} {cs : List C} {count : ℕ} (r : IsSorted most ks cs count)
    (to : ℕ) {i n : ℕ} (e : n ≡ length cs) (at : i ≡ below (take n ks) to) where
  up_to : (j : ℕ) → i ≡ j → option_map (λ p. p.0) (below_of (pairs ks cs) to) ≡ option_map (λ p. p.0) (last_of (take j (pairs ks cs)))
  up_to j is =
      ap (λ es. option_map (λ p. p.0) (last_of es)) (sym (between-take 0 0 to (pairs ks cs) r.ascending (omega arith)))
      ∙ ap (λ k. option_map (λ p. p.0) (last_of (take k (pairs ks cs)))) (sym (place_is r to e at) ∙ is)

  pub last_none : i ≡ 0 → None ≡ option_map (λ p. p.0) (below_of (pairs ks cs) to)
  last_none none = sym (up_to 0 none)

  pub last_some : 0 < i → Some (get_or ks (i - 1) 0) ≡ option_map (λ p. p.0) (below_of (pairs ks cs) to)
  last_some some =
      let inside = count_within (pairs ks cs) to in
      sym (up_to (suc (i - 1)) (omega arith) ∙ last_byte-take ks cs (i - 1) (enough_bytes r) (omega (arith, inside, place_is r to e at, length-sorted r)))

-- in a node with children in a row, by their places
module _ {C : Type 0} {most : ℕ} {place : ℕ → ℕ} {row : List C} {count : ℕ} (r : IsRow most place row count) (to : ℕ) (within : to ≤ 256) where
  -- every byte from this one on, below the limit, has a place past the row
  abbrev pub IsFree : ℕ → Type 0
  IsFree from = (b : ℕ) → from ≤ b → b < to → length row ≤ place b

  absent : (from j : ℕ) → IsFree from → from ≤ j → j < to → lookup (in_row place row) j ≡ None
  absent from j free at_least under = row-lookup most place row count r j (omega arith) ∙ slice_get_past row (place j) (free j at_least under)

  pub last_in_row : (o : Option ℕ) → IfSome o (λ byte. byte < to) → IfSome o (λ byte. place byte < length row) → IfSome o (λ byte. IsFree (byte + 1)) → IfNone o (IsFree 0) → o ≡ option_map (λ p. p.0) (below_of (in_row place row) to)
  last_in_row None less inside free none = none_below (in_row place row) to (λ j under. absent 0 j none (omega arith) under)
  last_in_row (Some byte) less inside free none =
      below_at 0 256 (in_row place row) to byte (under-rises (at_place place row) 0 256 256 refl) less (row-present most place row count r byte (omega arith) inside)
      (λ j more under. absent (byte + 1) j free (omega arith) under)

-- what was found in an index
module _ {C : Type 0} {most : ℕ} (index is : List ℕ) {row : List C} {count : ℕ} (n : ℕ) (r : IsRow most (slice_index index) row count) (same : is ≡ index) (long : n ≡ length row) (to : ℕ) (within : to ≤ 256) where
  pub last_by_index : (o : Option ℕ) → IfSome o (λ byte. byte < to) → IfSome o (λ byte. slice_index is byte < n) → IfSome o (λ byte. (b : ℕ) → byte < b → b < to → n ≤ slice_index is b) → IfNone o ((b : ℕ) → b < to → n ≤ slice_index is b)
      → o ≡ option_map (λ p. p.0) (below_of (in_row (slice_index index) row) to)
  last_by_index None less here free none = last_in_row r to within None tt tt tt (λ b from under. omega (arith, none b under, long, ap (λ x. slice_index x b) same))
  last_by_index (Some byte) less here free none =
      last_in_row r to within (Some byte) less (omega (arith, here, long, ap (λ x. slice_index x byte) same)) (λ b from under. omega (arith, free b (omega arith) under, long, ap (λ x. slice_index x b) same)) tt

-- what was found among bytes with a child or none
module _ {C : Type 0} (has : ℕ → Option C) (to : ℕ) (within : to ≤ 256) where
  free_byte : (j : ℕ) → j < to → has j ≡ None → lookup (under has 0 256) j ≡ None
  free_byte j less none = lookup-under has 0 256 j (omega arith) (omega arith) ∙ none

  pub last_under : (o : Option ℕ) → IfSome o (λ byte. byte < to) → IfSome o (λ byte. IsSome (has byte)) → IfSome o (λ byte. (b : ℕ) → byte < b → b < to → has b ≡ None) → IfNone o ((b : ℕ) → b < to → has b ≡ None)
      → o ≡ option_map (λ p. p.0) (below_of (under has 0 256) to)
  last_under None less here free none = none_below (under has 0 256) to (λ j l. free_byte j l (none j l))
  last_under (Some byte) less here free none =
      below_at 0 256 (under has 0 256) to byte (under-rises has 0 256 256 refl) less (rw (lookup-under has 0 256 byte (omega arith) (omega arith)) here)
      (λ j more l. free_byte j l (free j more l))
