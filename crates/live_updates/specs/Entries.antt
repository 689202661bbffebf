-- THE ENTRIES of calls in a history, by what they return.
use Rattle.std.specs.Prelude.{ℕ, Option, None, Result}
use Rattle.spec_map.specs.Call.{remove, compare_exchange, old_value, exchanged, replied}
use Rattle.share_rule.specs.History.{Entry, entry}

-- the removal of a key, by the value that it had
abbrev pub removed : ℕ → ℕ → Option ℕ → Entry ℕ
removed caller key before = entry caller record { call = remove key; asked = None; answer = replied (old_value before) }

-- an exchange of the value that is expected for another one, or for none, by what is stored then (Ok), or by the current
-- value, which isn't the expected one (Err)
abbrev pub swapped : ℕ → ℕ → ℕ → Option ℕ → Result (Option ℕ) (Option ℕ) → Entry ℕ
swapped caller key old new result = entry caller record { call = compare_exchange key old new; asked = None; answer = replied (exchanged result) }
