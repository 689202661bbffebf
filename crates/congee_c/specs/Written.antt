-- What is written to the caller's places.
use Rattle.std.specs.Prelude.{ℕ, Option, Some, None}
use Rattle.congee_c.specs.declared.Pair.{Pair}

-- what a place holds after a pair was written to it, if there is one
abbrev pub pair_if_there : Option (ℕ × ℕ) → Pair → Pair
pair_if_there None held = held
pair_if_there (Some pair) held = record { key = pair.0; value = pair.1 }
