-- What a larger node has of a smaller one, and what is left of the smaller.
use Rattle.std.proofs.Common.{◌≡◌, ◌≢◌, ◌⊎◌, ℕ, zero, suc, ◌+◌, ◌<◌, ◌≤◌, List, [], ◌∷◌, ◌++◌, length, get_or, slice_get, slice_index, take, replicate, None, refl, ap, sym, ◌∙◌, arith, inl, inr, subst, length-append}
use Rattle.std.proofs.lemmas.Bool.{eq-eqb, ne_eqb, cases_eq, cases_lt}
use Rattle.std.proofs.lemmas.List.{get_or-replicate, get_or-take, length-take-le}
use Rattle.std.proofs.lemmas.Option.{slice_get_past}
use Rattle.spec_map.specs.Map.{lookup, Rises}
use Rattle.spec_map.proofs.JoinLaws.{lookup-above}
use Rattle.spec_map.proofs.MapLaws.{same_from_lookups}
use Rattle.node_base.specs.inner.Row.{at_place, in_row, IsRow}
use Rattle.node_base.specs.inner.Sorted.{pairs, IsSorted}
use Rattle.node_base.proofs.RowLaws.{under-rises, lookup-under, lookup-outside}
use Rattle.node_forms.proofs.SortedLaws.{enough_bytes, length-sorted, pairs-none}

module _ {C : Type 0} where
  -- bytes past the children don't count
  pairs-more : (ks more : List ℕ) (cs : List C) → length cs ≤ length ks → pairs (ks ++ more) cs ≡ pairs ks cs
  pairs-more [] more [] l = pairs-none more
  pairs-more [] more (c ∷ cs) l = absurd (omega arith)
  pairs-more (k ∷ ks) more [] l = refl
  pairs-more (k ∷ ks) more (c ∷ cs) l = ap (λ t. (k, c) ∷ t) (pairs-more ks more cs (omega arith))

  byte-from : (a : ℕ) (ks : List ℕ) (cs : List C) (i : ℕ) → Rises a 256 (pairs ks cs) → length cs ≤ length ks → i < length cs → a ≤ get_or ks i 0
  byte-from a ks [] i h l m = absurd (omega arith)
  byte-from a [] (c ∷ cs) i h l m = absurd (omega arith)
  byte-from a (k ∷ ks) (c ∷ cs) zero h l m = h.0
  byte-from a (k ∷ ks) (c ∷ cs) (suc i) h l m = omega (arith, byte-from (k + 1) ks cs i h.2 (omega arith) (omega arith), h.0)

  byte-less : (a : ℕ) (ks : List ℕ) (cs : List C) (i j : ℕ) → Rises a 256 (pairs ks cs) → length cs ≤ length ks → i < j → j < length cs → get_or ks i 0 < get_or ks j 0
  byte-less a ks [] i j h l m n = absurd (omega arith)
  byte-less a [] (c ∷ cs) i j h l m n = absurd (omega arith)
  byte-less a (k ∷ ks) (c ∷ cs) i zero h l m n = absurd (omega arith)
  byte-less a (k ∷ ks) (c ∷ cs) zero (suc j) h l m n = omega (arith, byte-from (k + 1) ks cs j h.2 (omega arith) (omega arith))
  byte-less a (k ∷ ks) (c ∷ cs) (suc i) (suc j) h l m n = byte-less (k + 1) ks cs i j h.2 (omega arith) (omega arith) (omega arith)

  -- the child beside a byte
  child-beside : (a : ℕ) (ks : List ℕ) (cs : List C) (i : ℕ) → Rises a 256 (pairs ks cs) → length cs ≤ length ks → i < length cs → lookup (pairs ks cs) (get_or ks i 0) ≡ slice_get cs i
  child-beside a ks [] i h l m = absurd (omega arith)
  child-beside a [] (c ∷ cs) i h l m = absurd (omega arith)
  child-beside a (k ∷ ks) (c ∷ cs) zero h l m = rw (eq-eqb k k refl) refl
  child-beside a (k ∷ ks) (c ∷ cs) (suc i) h l m =
      let more = byte-from (k + 1) ks cs i h.2 (omega arith) (omega arith) in
      rw (ne_eqb k (get_or ks i 0) (omega (arith, more))) (child-beside (k + 1) ks cs i h.2 (omega arith) (omega arith))

  -- a byte has a child or has none
  byte_cases : (ks : List ℕ) (cs : List C) (b : ℕ) → length cs ≤ length ks → ((i : ℕ) × (i < length cs) × (get_or ks i 0 ≡ b)) ⊎ (((i : ℕ) → i < length cs → get_or ks i 0 ≢ b) × (lookup (pairs ks cs) b ≡ None))
  byte_cases [] [] b l = inr ((λ i m. absurd (omega arith)), refl)
  byte_cases (k ∷ ks) [] b l = inr ((λ i m. absurd (omega arith)), refl)
  byte_cases [] (c ∷ cs) b l = absurd (omega arith)
  byte_cases (k ∷ ks) (c ∷ cs) b l =
      elim (cases_eq k b) [
        | inl same ↦ inl (0, omega arith, same)
        | inr other ↦ elim (byte_cases ks cs b (omega arith)) [
          | inl there ↦ inl (suc there.0, omega (arith, there.1), there.2)
          | inr none ↦ inr (each ks cs k b other none.0, rw (ne_eqb k b other) none.1)
        ]
      ]
    where
      each : (ks : List ℕ) (cs : List C) (k b : ℕ) → k ≢ b → ((i : ℕ) → i < length cs → get_or ks i 0 ≢ b) → (i : ℕ) → i < suc (length cs) → get_or (k ∷ ks) i 0 ≢ b
      each ks cs k b other none zero m = other
      each ks cs k b other none (suc i) m = none i (omega arith)

-- from a sorted node to a larger one
module _ {C : Type 0} {most : ℕ} {ks : List ℕ} {cs : List C} {count : ℕ} (r : IsSorted most ks cs count) where
  pub sorted-longer : (more : List ℕ) (larger n : ℕ) (ds : List C) → larger ≡ most + length more → n ≡ count → ds ≡ cs → IsSorted larger (ks ++ more) ds n × (pairs (ks ++ more) ds ≡ pairs ks cs)
  sorted-longer more larger n ds room counted same =
      let is = pairs-more ks more cs (enough_bytes r) in
      rw (counted, same) (
        record {
          ascending = subst (Rises 0 256) (sym is) r.ascending;
          long = omega (arith, length-append ks more, r.long, room);
          within = omega (arith, r.within, room);
          counted = r.counted;
        },
        is,
      )

  -- what is left of it
  pub sorted-none : (n : ℕ) (ds : List C) → n ≡ 0 → ds ≡ [] → IsSorted most ks ds n × (pairs ks ds ≡ [])
  sorted-none n ds counted none =
      let is = pairs-none {C = C} ks in
      rw (counted, none) (
        record {
          ascending = subst (Rises 0 256) (sym is) tt;
          long = r.long;
          within = omega arith;
          counted = refl;
        },
        is,
      )

  -- the bytes that count
  module _ {n : ℕ} (e : n ≡ length cs) where
    long-front : length (take n ks) ≡ length cs
    long-front = length-take-le n ks (omega (arith, enough_bytes r, e)) ∙ e

    front : (i : ℕ) → i < length cs → get_or (take n ks) i 0 ≡ get_or ks i 0
    front i l = get_or-take n ks i 0 (omega (arith, l, e))

    pub bytes-apart : (i j : ℕ) → i < j → j < length (take n ks) → get_or (take n ks) i 0 ≢ get_or (take n ks) j 0
    bytes-apart i j l m same =
        let m' : j < length cs = omega (arith, m, long-front) in
        let less = byte-less 0 ks cs i j r.ascending (enough_bytes r) l m' in
        absurd (omega (arith, less, same, front i (omega (arith, l, m')), front j m'))

    -- each has its place in an index, and any other byte the mark of the larger node
    module _ (larger : ℕ) (index : List ℕ) (room : most < larger)
        (placed : (i : ℕ) → i < length (take n ks) → get_or index (get_or (take n ks) i 0) 0 ≡ i)
        (others : (b : ℕ) → ((i : ℕ) → i < length (take n ks) → get_or (take n ks) i 0 ≢ b) → get_or index b 0 ≡ get_or (replicate 256 larger) b 0) where
      place-cases : (b : ℕ) → b < 256 → ((get_or index b 0 < length cs) × (get_or ks (get_or index b 0) 0 ≡ b)) ⊎ ((get_or index b 0 ≡ larger) × (lookup (pairs ks cs) b ≡ None))
      place-cases b l =
          elim (byte_cases ks cs b (enough_bytes r)) [
            | inl there ↦
                let same : get_or (take n ks) there.0 0 ≡ b = front there.0 there.1 ∙ there.2 in
                let at : get_or index b 0 ≡ there.0 = ap (λ x. get_or index x 0) (sym same) ∙ placed there.0 (omega (arith, there.1, long-front)) in
                inl (omega (arith, at, there.1), ap (λ i. get_or ks i 0) at ∙ there.2)
            | inr none ↦
                inr (others b (λ i m f. none.0 i (omega (arith, m, long-front)) (sym (front i (omega (arith, m, long-front))) ∙ f)) ∙ get_or-replicate 256 b larger 0 l, none.1)
          ]

      row-of_pairs : in_row (slice_index index) cs ≡ pairs ks cs
      row-of_pairs =
          same_from_lookups 0 256 0 256 (in_row (slice_index index) cs) (pairs ks cs) (under-rises (at_place (slice_index index) cs) 0 256 256 refl) r.ascending
          (λ k. elim (cases_lt k 256) [
            | inl inside ↦ lookup-under (at_place (slice_index index) cs) 0 256 k (omega arith) inside ∙ elim (place-cases k inside) [
              | inl there ↦ sym (child-beside 0 ks cs (get_or index k 0) r.ascending (enough_bytes r) there.0) ∙ ap (lookup (pairs ks cs)) there.1
              | inr none ↦ slice_get_past cs (get_or index k 0) (omega (arith, none.0, r.within, room)) ∙ sym none.1
            ]
            | inr past ↦ lookup-outside (at_place (slice_index index) cs) 0 256 k (inr past) ∙ sym (lookup-above 0 256 (pairs ks cs) k r.ascending past)
          ])

      pub sorted-row : (m : ℕ) (ds : List C) → m ≡ count → ds ≡ cs → IsRow larger (slice_index index) ds m × (in_row (slice_index index) ds ≡ pairs ks cs)
      sorted-row m ds counted same = rw (counted, same) (
        record {
          within = omega (arith, r.within, room);
          vacant = λ b l past. elim (place-cases b l) [ inl there ↦ absurd (omega (arith, there.0, past)) | inr none ↦ none.0 ];
          apart = λ b d l k inside both. elim (place-cases b l) [
            | inl there ↦ elim (place-cases d k) [
              | inl too ↦ sym there.1 ∙ ap (λ i. get_or ks i 0) both ∙ too.1
              | inr none ↦ absurd (omega (arith, none.0, both, inside, r.within, room))
            ]
            | inr none ↦ absurd (omega (arith, none.0, inside, r.within, room))
          ];
          each = ap length row-of_pairs ∙ length-sorted r;
          counted = r.counted;
        },
        row-of_pairs,
      )
