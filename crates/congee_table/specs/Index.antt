-- The two indexes of a table, which are maps between numbers of 64 bits.
use Rattle.std.specs.Prelude.{◌≡◌, ℕ, ◌+◌, ◌*◌, ◌/◌, ◌%◌, ◌^◌, Some, map}
use Rattle.spec_map.specs.Map.{Pairs, lookup, Rises, IsMap}
use Rattle.congee_table.specs.Rows.{Rows}

-- the number of two halves
abbrev pub joined_halves : ℕ → ℕ → ℕ
joined_halves high low = high * 2 ^ 32 + low

-- the rows that the first index represents: it maps an id to its group and value, joined
abbrev pub rows_of : Pairs ℕ → Rows
rows_of first = map (λ e. (e.0, (e.1 / 2 ^ 32, e.1 % 2 ^ 32))) first

-- THE INDEXES AGREE WITH THE ROWS: each row is in both, and nothing else is.
pub record Agree (t : Rows) (first second : Pairs ℕ) : Type 0 where
  pub in_first : (id group value : ℕ) → lookup t id ≡ Some (group, value)
      → lookup first id ≡ Some (joined_halves group value)
  pub in_second : (id group value : ℕ) → lookup t id ≡ Some (group, value)
      → lookup second (joined_halves group id) ≡ Some value
  pub only_first : (id number : ℕ) → lookup first id ≡ Some number
      → lookup t id ≡ Some (number / 2 ^ 32, number % 2 ^ 32)
  pub only_second : (number value : ℕ) → lookup second number ≡ Some value
      → lookup t (number % 2 ^ 32) ≡ Some (number / 2 ^ 32, value)

-- Two maps are the indexes of a table: ids have 32 bits, and both agree with the rows.
pub record AreIndexes (first second : Pairs ℕ) : Type 0 where
  pub ids : Rises 0 (2 ^ 32) (rows_of first)
  pub numbers : IsMap second
  pub agree : Agree (rows_of first) first second
