-- What a range writes for its pairs.
use Rattle.std.specs.Prelude.{ℕ, List, map}
use Rattle.spec_map.specs.Map.{Pairs}
use Rattle.congee_shared_c.specs.declared.Pair.{Pair}

abbrev pub as_entries : Pairs ℕ → List Pair
as_entries pairs = map (λ pair. record { key = pair.0; value = pair.1 }) pairs
