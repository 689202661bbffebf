-- THE ENTRIES of calls with closures, by what those were called with and returned.
use Rattle.std.specs.Prelude.{ℕ, ◌+◌, ◌%◌, ◌^◌, Option, Some, None}
use Rattle.spec_map.specs.Call.{ClosureCall, compute_if_present, compute_or_insert, old_value, computed, replied}
use Rattle.share_rule.specs.History.{Entry, entry}

-- what the closure of compute_if_present was called with, and what it returned, if it was called
abbrev pub closure_call : Option (ℕ × Option ℕ) → ClosureCall ℕ
closure_call None = None
closure_call (Some both) = Some (Some both.0, both.1)

-- compute_if_present, by the previous value and what the closure returned
abbrev pub computed_with : ℕ → ℕ → Option (ℕ × Option ℕ) → Entry ℕ
computed_with caller key both = entry caller record { call = compute_if_present key; asked = closure_call both; answer = replied (computed both) }

-- compute_or_insert, whose closure was called with this, and returned that
abbrev pub inserted_with : ℕ → ℕ → Option ℕ → ℕ → Entry ℕ
inserted_with caller key old new = entry caller record { call = compute_or_insert key; asked = Some (old, Some new); answer = replied (old_value old) }

-- the sum, modulo 2 to the 64, of a value, if there is one, and a number
abbrev pub sum_with : Option ℕ → ℕ → ℕ
sum_with None number = number
sum_with (Some value) number = (value + number) % 2 ^ 64
