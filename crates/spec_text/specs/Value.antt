-- Values, keys, pairs and replies as text.
use Rattle.std.specs.Prelude.{ℕ, List, ◌++◌, codes, decimal, Option, Some, None, Result, Ok, Err}

-- a value, or `none`
abbrev pub value_text : Option ℕ → List ℕ
value_text None = codes "none"
value_text (Some value) = decimal value

-- the reply to an exchange: what is stored now, or the current value, which isn't the expected one
abbrev pub exchanged_text : Result (Option ℕ) (Option ℕ) → List ℕ
exchanged_text (Ok put) = codes "ok " ++ value_text put
exchanged_text (Err current) = codes "err " ++ value_text current

-- the reply to a computation: the old value and what its closure answered, if the key was present
abbrev pub computed_text : Option (ℕ × Option ℕ) → List ℕ
computed_text None = codes "none"
computed_text (Some (old, new)) = decimal old ++ codes " " ++ value_text new

-- a pair, or `none`
abbrev pub found_text : Option (ℕ × ℕ) → List ℕ
found_text None = codes "none"
found_text (Some (key, value)) = decimal key ++ codes "=" ++ decimal value

-- a key behind a space, and a pair with its value
abbrev pub key_text : ℕ → List ℕ
key_text key = codes " " ++ decimal key

abbrev pub pair_text : ℕ × ℕ → List ℕ
pair_text pair = codes " " ++ decimal pair.0 ++ codes "=" ++ decimal pair.1
