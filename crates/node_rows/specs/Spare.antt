-- When a node needs a spare row for one child more.
use Rattle.std.specs.Prelude.{◌≡◌, ℕ, ◌+◌, ◌%◌, ◌≤◌, [], Option, Some, None, vec_capacity}
use Rattle.std.specs.Global.{Vec}

-- a row for so many children is there where one is needed: a row has sixteen places, or four more
abbrev pub IsSpareFor : {C : Type 0} → ℕ → Option (Vec C) → Type 0
IsSpareFor n None = 16 ≤ n → n % 4 ≡ 0 → ⊥
IsSpareFor n (Some row) = (row.items ≡ []) × (16 ≤ vec_capacity row) × (n + 4 ≤ vec_capacity row)
