-- The rows that a first index represents, after a change.
use Rattle.std.proofs.Common.{◌≡◌, ℕ, ◌/◌, ◌%◌, ◌^◌, ◌<◌, [], ◌∷◌, Option, Some, None, refl, ap, sym, ◌∙◌, arith, inl, inr}
use Rattle.std.specs.Option.{option_map}
use Rattle.std.proofs.lemmas.Option.{same_Some, some_pair_parts}
use Rattle.std.proofs.lemmas.Bool.{lt-ltb, le-ltb, eq-eqb, ne_eqb, cases_order, cases_eq}
use Rattle.spec_map.specs.Map.{Pairs, lookup, put, without}
use Rattle.congee_table.specs.Rows.{Rows, row_at, IsInGroup, moved, regrouped}
use Rattle.congee_table.specs.declared.table.Row.{Row}
use Rattle.congee_table.specs.Index.{joined_halves, rows_of}

-- the group and the value of a number
abbrev pub parts : ℕ → ℕ × ℕ
parts n = (n / 2 ^ 32, n % 2 ^ 32)

pub lookup-rows_of : (first : Pairs ℕ) (k : ℕ) → lookup (rows_of first) k ≡ option_map parts (lookup first k)
lookup-rows_of [] k = refl
lookup-rows_of (e ∷ es) k =
    elim (cases_eq e.0 k) [
      | inl same ↦ rw (eq-eqb e.0 k same) refl
      | inr other ↦ rw (ne_eqb e.0 k other) (lookup-rows_of es k)
    ]

-- no row, or the row of a number
pub no_row : (first : Pairs ℕ) (k : ℕ) → lookup first k ≡ None → lookup (rows_of first) k ≡ None
no_row first k none = lookup-rows_of first k ∙ ap (option_map parts) none

pub row_of_number : (first : Pairs ℕ) (k n : ℕ) → lookup first k ≡ Some n → lookup (rows_of first) k ≡ Some (parts n)
row_of_number first k n is = lookup-rows_of first k ∙ ap (option_map parts) is

pub no_row_at : (first : Pairs ℕ) (k : ℕ) → lookup first k ≡ None → row_at (rows_of first) k ≡ None
no_row_at first k none = ap (option_map (λ (e : ℕ × ℕ). record { id = k; group = e.0; value = e.1 })) (no_row first k none)

pub row_at_number : (first : Pairs ℕ) (k n : ℕ) → lookup first k ≡ Some n → row_at (rows_of first) k ≡ Some (record { id = k; group = n / 2 ^ 32; value = n % 2 ^ 32 })
row_at_number first k n is = ap (option_map (λ (e : ℕ × ℕ). record { id = k; group = e.0; value = e.1 })) (row_of_number first k n is)

-- a number that the map returns is read as itself
pub number_read : (found : Option ℕ) (n : ℕ) → Some n ≡ option_map (λ number. number) found → found ≡ Some n
number_read None n is = absurd (cc)
number_read (Some m) n is = sym is

pub none_read : (found : Option ℕ) → None ≡ option_map (λ number. number) found → found ≡ None
none_read None is = refl
none_read (Some m) is = absurd (cc)

pub number_of_row : (first : Pairs ℕ) (k g v : ℕ) → lookup (rows_of first) k ≡ Some (g, v) → lookup first k ≡ Some (joined_halves g v)
number_of_row first k g v is = rejoined (lookup first k) g v (rw (lookup-rows_of first k) at is) where
  rejoined : (found : Option ℕ) (g v : ℕ) → option_map parts found ≡ Some (g, v) → found ≡ Some (joined_halves g v)
  rejoined None g v is = absurd (cc)
  rejoined (Some n) g v is =
      let both = some_pair_parts (n / 2 ^ 32) g (n % 2 ^ 32) v is in
      let whole : n ≡ joined_halves g v = omega (arith, both.0, both.1) in
      ap Some whole

pub rows_of-put : (first : Pairs ℕ) (k n : ℕ) → rows_of (put first k n) ≡ put (rows_of first) k (parts n)
rows_of-put [] k n = refl
rows_of-put (e ∷ es) k n =
    elim (cases_order e.0 k) [
      | inl same ↦ rw (le-ltb e.0 k (omega arith), eq-eqb e.0 k same) refl
      | inr (inl less) ↦ rw (lt-ltb e.0 k less) (ap (λ t. (e.0, parts e.1) ∷ t) (rows_of-put es k n))
      | inr (inr more) ↦ rw (le-ltb e.0 k (omega arith), ne_eqb e.0 k (omega arith)) refl
    ]

-- the rows after a number that joins a group and a value
pub rows_of-put_joined : (first : Pairs ℕ) (k g v : ℕ) → v < 2 ^ 32 → rows_of (put first k (joined_halves g v)) ≡ put (rows_of first) k (g, v)
rows_of-put_joined first k g v small =
    let high : joined_halves g v / 2 ^ 32 ≡ g = omega arith in
    let low : joined_halves g v % 2 ^ 32 ≡ v = omega arith in
    rows_of-put first k (joined_halves g v) ∙ ap (λ e. put (rows_of first) k e) (λ i. (high i, low i))

pub rows_of-without : (first : Pairs ℕ) (k : ℕ) → rows_of (without first k) ≡ without (rows_of first) k
rows_of-without [] k = refl
rows_of-without (e ∷ es) k =
    elim (cases_eq e.0 k) [
      | inl same ↦ rw (eq-eqb e.0 k same) refl
      | inr other ↦ rw (ne_eqb e.0 k other) (ap (λ t. (e.0, parts e.1) ∷ t) (rows_of-without es k))
    ]

-- a row that is found is in its group
pub row_in : (t : Rows) (id : ℕ) (row : Row) → Some row ≡ row_at t id → IsInGroup t id row.group
row_in t id row is = found_in (lookup t id) is where
  found_in : (found : Option (ℕ × ℕ)) → Some row ≡ option_map (λ (e : ℕ × ℕ). record { id = id; group = e.0; value = e.1 }) found → (value : ℕ) × (found ≡ Some (row.group, value))
  found_in None is = absurd (cc)
  found_in (Some (group, value)) is =
      let whole = same_Some row (record { id = id; group = group; value = value }) is in
      (value, ap (λ (r : Row). Some (r.group, value)) (sym whole))

-- a row that is found is put into a group with its value
pub regrouped_by : (t n : Rows) (id group value : ℕ) (row : Row) → Some row ≡ row_at t id → n ≡ put t id (group, value) → value ≡ row.value → n ≡ regrouped t id group
regrouped_by t n id group value row is is_put kept = is_put ∙ by_found (lookup t id) is where
  by_found : (found : Option (ℕ × ℕ)) → Some row ≡ option_map (λ (e : ℕ × ℕ). record { id = id; group = e.0; value = e.1 }) found → put t id (group, value) ≡ moved t id group found
  by_found None is = absurd (cc)
  by_found (Some (old, known)) is =
      let whole = same_Some row (record { id = id; group = old; value = known }) is in
      ap (λ (v : ℕ). put t id (group, v)) (kept ∙ ap (λ (r : Row). r.value) whole)
