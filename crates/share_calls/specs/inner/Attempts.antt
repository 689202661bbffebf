-- The operations of a hold whose call may be refused: none if it was.
use Rattle.std.specs.Prelude.{ℕ, List, [], ◌∷◌, Option, Result, Ok, Err}
use Rattle.spec_map.specs.Call.{Operation, insert, old_value}
use Rattle.share_calls.specs.Computed.{computed_from}
use Rattle.share_works.specs.Made.{returned}

-- an insertion
abbrev pub insertion : {E : Type 0} → ℕ → ℕ → Result (Option ℕ) E → List (Operation ℕ ℕ ℕ)
insertion key value (Ok before) = returned (insert key value) (old_value before) ∷ []
insertion key value (Err e) = []

-- a call that puts the new value together from the previous one
abbrev pub computation : {E : Type 0} → ℕ → (Option ℕ → ℕ) → Result (Option ℕ) E → List (Operation ℕ ℕ ℕ)
computation key value_of (Ok before) = computed_from key before (value_of before) ∷ []
computation key value_of (Err e) = []
