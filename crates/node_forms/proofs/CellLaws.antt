-- The map of bytes that cells are, and the cells that a row's children move to.
use Rattle.std.proofs.Common.{◌≡◌, ◌≢◌, ◌⊎◌, ℕ, zero, suc, ◌+◌, ◌<◌, ◌≤◌, nat_lt, if◌then◌else◌, List, [], length, get_or, slice_get, replicate, Option, Some, None, IsSome, refl, ap, sym, ◌∙◌, arith, inl, inr}
use Rattle.std.proofs.lemmas.Bool.{cases_eq, cases_lt, lt-ltb, le-ltb}
use Rattle.std.proofs.lemmas.Option.{slice_get_cases, slice_get_past}
use Rattle.spec_map.specs.Map.{lookup, put, without}
use Rattle.spec_map.proofs.ByteMapLaws.{length-absent, length-put_new, length-put_some, length-without_present}
use Rattle.node_base.specs.inner.Places.{in_cell, in_cells}
use Rattle.node_base.specs.inner.Row.{under, at_place, in_row, IsRow}
use Rattle.node_base.proofs.RowLaws.{under-rises, under-same, under-put, under-without, under-nothing, lookup-under}

module _ {C : Type 0} where
  module _ (slots : List (Option C)) (b : ℕ) (byte : b < 256) where
    pub cell-lookup : lookup (in_cells slots) b ≡ in_cell slots b
    cell-lookup = lookup-under (in_cell slots) 0 256 b (omega arith) byte

    -- in a full node each byte has a child
    pub cell-full : length (in_cells slots) ≡ 256 → IsSome (in_cell slots b)
    cell-full full = some (in_cell slots b) refl
      where
        some : (o : Option C) → in_cell slots b ≡ o → IsSome o
        some (Some c) is = refl
        some None is = absurd (let l = length-absent 0 256 (in_cells slots) b (under-rises (in_cell slots) 0 256 256 refl) (omega arith) byte (cell-lookup ∙ is) in omega (arith, l, full))

  -- one cell differs
  module _ (slots new : List (Option C)) (b : ℕ) (byte : b < 256) (others : (d : ℕ) → d ≢ b → in_cell new d ≡ in_cell slots d) where
    pub cells-put : (c : C) → in_cell new b ≡ Some c → in_cells new ≡ put (in_cells slots) b c
    cells-put c here = under-put (in_cell new) (in_cell slots) b c byte here (λ d l n. others d n)

    pub cells-without : in_cell new b ≡ None → in_cells new ≡ without (in_cells slots) b
    cells-without here = under-without (in_cell new) (in_cell slots) b byte here (λ d l n. others d n)

    pub cells-more : (c : C) → in_cell new b ≡ Some c → in_cell slots b ≡ None → length (in_cells new) ≡ length (in_cells slots) + 1
    cells-more c here none =
        ap length (cells-put c here) ∙ length-put_new 0 256 (in_cells slots) b c (under-rises (in_cell slots) 0 256 256 refl) (cell-lookup slots b byte ∙ none)

    pub cells-as_many : (c : C) → in_cell new b ≡ Some c → IsSome (in_cell slots b) → length (in_cells new) ≡ length (in_cells slots)
    cells-as_many c here some =
        ap length (cells-put c here) ∙ length-put_some 0 256 (in_cells slots) b c (under-rises (in_cell slots) 0 256 256 refl) (rw (cell-lookup slots b byte) some)

    pub cells-fewer : in_cell new b ≡ None → IsSome (in_cell slots b) → length (in_cells new) + 1 ≡ length (in_cells slots)
    cells-fewer here some =
        ap (λ es. length es + 1) (cells-without here) ∙ length-without_present 0 256 (in_cells slots) b (under-rises (in_cell slots) 0 256 256 refl) (rw (cell-lookup slots b byte) some)

  -- a node that lacks a byte has fewer than 256 children
  pub cells-room : (slots : List (Option C)) (b : ℕ) → b < 256 → in_cell slots b ≡ None → length (in_cells slots) < 256
  cells-room slots b byte none = let l = length-absent 0 256 (in_cells slots) b (under-rises (in_cell slots) 0 256 256 refl) (omega arith) byte (cell-lookup slots b byte ∙ none) in omega (arith, l)

  pub get-none : (n b : ℕ) → in_cell {C = C} (replicate n None) b ≡ None
  get-none zero b = refl
  get-none (suc n) zero = refl
  get-none (suc n) (suc b) = get-none n b

  -- no child where all cells are empty
  pub cells-none : (n : ℕ) → in_cells {C = C} (replicate n None) ≡ []
  cells-none n = under-nothing (in_cell {C = C} (replicate n None)) 0 256 (λ d l. get-none n d) (omega arith)

-- a byte has this place, or none below so many
owner : (place : ℕ → ℕ) (i n : ℕ) → ((b : ℕ) × (b < n) × (place b ≡ i)) ⊎ ((b : ℕ) → b < n → place b ≢ i)
owner place i zero = inr (λ b l. absurd (omega arith))
owner place i (suc n) =
    elim (cases_eq (place n) i) [
      | inl same ↦ inl (n, omega arith, same)
      | inr other ↦ elim (owner place i n) [
        | inl found ↦ inl (found.0, omega (arith, found.1), found.2)
        | inr none ↦ inr (λ b l. elim (cases_eq b n) [ inl same ↦ rw same other | inr less ↦ none b (omega arith) ])
      ]
    ]

-- each place of a row has its byte, as there are as many bytes with a place as places
module _ {C : Type 0} {most : ℕ} {place : ℕ → ℕ} {row : List C} {count : ℕ} (r : IsRow most place row count) where
  -- the child of a byte whose place is one of the first
  kept : ℕ → ℕ → Option C
  kept n b = if nat_lt (place b) n then slice_get row (place b) else None

  kept-less : (n b : ℕ) → place b < n → kept n b ≡ slice_get row (place b)
  unfolding kept
  kept-less n b l = rw (lt-ltb (place b) n l) refl

  kept-more : (n b : ℕ) → n ≤ place b → kept n b ≡ None
  unfolding kept
  kept-more n b l = rw (le-ltb (place b) n l) refl

  -- a place more, and no byte has it
  same_kept : (n : ℕ) → ((b : ℕ) → b < 256 → place b ≢ n) → under (kept (suc n)) 0 256 ≡ under (kept n) 0 256
  same_kept n none =
      under-same (kept (suc n)) (kept n) 0 256
      (λ b l m. elim (cases_lt (place b) n) [
        | inl less ↦ kept-less (suc n) b (omega arith) ∙ sym (kept-less n b less)
        | inr more ↦ (let other = none b m in kept-more (suc n) b (omega (arith, other, more)) ∙ sym (kept-more n b more))
      ])

  -- or one byte has it
  next_kept : (n b : ℕ) → b < 256 → place b ≡ n → n < length row → length (under (kept n) 0 256) + 1 ≡ length (under (kept (suc n)) 0 256)
  next_kept n b byte is inside =
      ap (λ es. length es + 1) (under-without (kept n) (kept (suc n)) b byte (kept-more n b (omega (arith, is)))
      (λ d l other. elim (cases_lt (place d) n) [
        | inl less ↦ kept-less n d less ∙ sym (kept-less (suc n) d (omega arith))
        | inr more ↦ (let apart : place d ≢ n = λ e. other (sym (r.apart b d byte l (omega (arith, is, inside)) (is ∙ sym e))) in kept-more n d more ∙ sym (kept-more (suc n) d (omega (arith, apart, more))))
      ]))
      ∙ length-without_present 0 256 (under (kept (suc n)) 0 256) b (under-rises (kept (suc n)) 0 256 256 refl)
      (rw (lookup-under (kept (suc n)) 0 256 b (omega arith) byte, kept-less (suc n) b (omega (arith, is))) (some (place b) (omega (arith, is, inside))))
    where
      some : (i : ℕ) → i < length row → IsSome (slice_get row i)
      some i l = elim (slice_get_cases row i).1 [ inl there ↦ rw there.2 refl | inr past ↦ absurd (omega (arith, past.0, l)) ]

  few_kept : (n : ℕ) → n ≤ length row → length (under (kept n) 0 256) ≤ n
  few_kept zero l = rw (under-nothing (kept zero) 0 256 (λ b _. kept-more zero b (omega arith)) (omega arith)) (omega arith)
  few_kept (suc n) l =
      let h = few_kept n (omega arith) in
      elim (owner place n 256) [
        | inl found ↦ (let e = next_kept n found.0 found.1 found.2 (omega arith) in omega (arith, e, h))
        | inr none ↦ rw (same_kept n none) (omega (arith, h))
      ]

  -- where no byte has a place, fewer bytes than places
  fewer_kept : (i : ℕ) → ((b : ℕ) → b < 256 → place b ≢ i) → (n : ℕ) → i < n → n ≤ length row → length (under (kept n) 0 256) < n
  fewer_kept i none zero l m = absurd (omega arith)
  fewer_kept i none (suc n) l m =
      elim (cases_eq i n) [
        | inl same ↦ (let h = few_kept n (omega arith) in rw (same_kept n (rw same at none)) (omega (arith, h)))
        | inr less ↦ (let h = fewer_kept i none n (omega arith) (omega arith) in
            elim (owner place n 256) [
              | inl found ↦ (let e = next_kept n found.0 found.1 found.2 (omega arith) in omega (arith, e, h))
              | inr free ↦ rw (same_kept n free) (omega (arith, h))
            ])
      ]

  all_kept : under (kept (length row)) 0 256 ≡ in_row place row
  all_kept =
      under-same (kept (length row)) (at_place place row) 0 256
      (λ b l m. elim (cases_lt (place b) (length row)) [
        | inl less ↦ kept-less (length row) b less
        | inr more ↦ kept-more (length row) b more ∙ sym (slice_get_past row (place b) more)
      ])

  place_owner : (i : ℕ) → i < length row → (b : ℕ) × (b < 256) × (place b ≡ i)
  place_owner i l =
      elim (owner place i 256) [
        | inl found ↦ found
        | inr none ↦ absurd (let h = fewer_kept i none (length row) l (omega arith) in omega (arith, h, ap length all_kept, r.each))
      ]

  -- the byte of each place
  module _ (bytes : List ℕ) (by_place : (b : ℕ) → b < 256 → ((d : ℕ) → d < 256 → place d ≡ place b → d ≡ b) → get_or bytes (place b) 0 ≡ b) where
    byte_of : (b : ℕ) → b < 256 → place b < length row → get_or bytes (place b) 0 ≡ b
    byte_of b l inside = by_place b l (λ d m e. sym (r.apart b d l m inside (sym e)))

    place_of : (i : ℕ) → i < length row → place (get_or bytes i 0) ≡ i
    place_of i l =
        let found = place_owner i l in
        let e = found.2 in
        let same : get_or bytes i 0 ≡ found.0 = ap (λ x. get_or bytes x 0) (sym e) ∙ byte_of found.0 found.1 (omega (arith, e, l)) in
        ap place same ∙ e

    pub bytes-distinct : (i j : ℕ) → i < j → j < length row → get_or bytes i 0 ≢ get_or bytes j 0
    bytes-distinct i j l m same = absurd (let e = sym (place_of i (omega arith)) ∙ ap place same ∙ place_of j m in omega (arith, e, l))

    -- once each child is in the cell of its byte
    module _ (slots : List (Option C)) (moved : (i : ℕ) → i < length row → in_cell slots (get_or bytes i 0) ≡ slice_get row i)
        (others : (b : ℕ) → ((i : ℕ) → i < length row → get_or bytes i 0 ≢ b) → in_cell slots b ≡ None) where
      pub cells-moved : in_cells slots ≡ in_row place row
      cells-moved =
          under-same (in_cell slots) (at_place place row) 0 256
          (λ b l m. elim (cases_lt (place b) (length row)) [
            | inl less ↦ ap (in_cell slots) (sym (byte_of b m less)) ∙ moved (place b) less
            | inr more ↦ others b (λ i k e. (let p = sym (place_of i k) ∙ ap place e in absurd (omega (arith, p, k, more)))) ∙ sym (slice_get_past row (place b) more)
          ])

      pub count-moved : length (in_cells slots) ≡ count
      count-moved = ap length cells-moved ∙ r.each ∙ sym r.counted
