-- Children in a row, in any order, and the place that each byte has in it.
use Rattle.std.specs.Prelude.{◌≡◌, ℕ, zero, suc, ◌+◌, ◌<◌, ◌≤◌, List, [], ◌∷◌, length, Option, Some, None, slice_get}

module _ {C : Type 0} where
  -- the child of a byte, if there is one, before others
  abbrev pub joined : ℕ → Option C → List (ℕ × C) → List (ℕ × C)
  joined b None others = others
  joined b (Some c) others = (b, c) ∷ others

  -- the children of so many bytes from this one on, where each byte has a child or none
  unfoldable pub under : (ℕ → Option C) → ℕ → ℕ → List (ℕ × C)
  under has b zero = []
  under has b (suc n) = joined b (has b) (under has (b + 1) n)

  -- the child at a byte's place; none where the place is past the row
  abbrev pub at_place : (ℕ → ℕ) → List C → ℕ → Option C
  at_place place row b = slice_get row (place b)

  -- the children in a row, each with its byte
  abbrev pub in_row : (ℕ → ℕ) → List C → List (ℕ × C)
  in_row place row = under (at_place place row) 0 256

  -- what each node with children in a row keeps: a byte without a child has the first place that no row reaches
  pub record IsRow (most : ℕ) (place : ℕ → ℕ) (row : List C) (count : ℕ) : Type 0 where
    pub within : length row ≤ most
    pub vacant : (b : ℕ) → b < 256 → length row ≤ place b → place b ≡ most
    pub apart : (b d : ℕ) → b < 256 → d < 256 → place b < length row → place b ≡ place d → b ≡ d
    pub each : length (in_row place row) ≡ length row
    pub counted : count ≡ length row
