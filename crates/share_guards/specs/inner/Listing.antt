-- The operations of a hold that lists the keys: none if there was no memory for them.
use Rattle.std.specs.Prelude.{ℕ, List, [], ◌∷◌, Result, Ok, Err, map}
use Rattle.share_works.specs.Made.{returned}
use Rattle.spec_map.specs.Call.{Operation, keys, listed}
use Rattle.spec_map.specs.Map.{Pairs}

abbrev pub listing_keys : {X E : Type 0} → Result X E → Pairs ℕ → List (Operation ℕ ℕ ℕ)
listing_keys (Ok list) m = returned keys (listed (map (λ (pair : ℕ × ℕ). pair.0) m)) ∷ []
listing_keys (Err e) m = []
