-- What a map has that lies in the slot which a seat took.
use Rattle.std.specs.Prelude.{ℕ, List, [], ◌∷◌, Option, Some, None}
use Rattle.spec_map.specs.Map.{Pairs}

abbrev pub pairs_in : {S : Type 0} → (S → Pairs ℕ) → List (ℕ × Option S) → Pairs ℕ
pairs_in pairs [] = []
pairs_in pairs ((slot, None) ∷ rest) = []
pairs_in pairs ((slot, Some value) ∷ rest) = pairs value
