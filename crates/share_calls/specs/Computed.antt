-- The operations of calls that put a new value together from the current one.
use Rattle.std.specs.Prelude.{ℕ, ◌+◌, ◌%◌, ◌^◌, Option, Some, None}
use Rattle.spec_map.specs.Call.{compute_or_insert, Operation, replied, old_value}

-- a call whose closure was called with the previous value and returned this one
abbrev pub computed_from : ℕ → Option ℕ → ℕ → Operation ℕ ℕ ℕ
computed_from key before value = record { call = compute_or_insert key; asked = Some (before, Some value); answer = replied (old_value before) }

-- the sum of the value and a number, modulo 2 to the 64, or the number where there is no value
abbrev pub sum_with : Option ℕ → ℕ → ℕ
sum_with None number = number
sum_with (Some value) number = (value + number) % 2 ^ 64
