-- WHAT WAS STORED at a moment since what was seen: in the map at the end of a legal history which begins with that.
use Rattle.std.specs.Prelude.{◌≡◌, ℕ, Bool, List, [], ◌∷◌, Some, length, map, take}
use Rattle.share_backend.specs.Reads.{IsPage}
use Rattle.share_rule.specs.History.{Entry, IsHistory, StartsWith}
use Rattle.spec_map.specs.Map.{Pairs, IsMap, Rises, lookup}

module _ {T : Type 0} (same : T → T → Bool) (seen : List (Entry T)) where
  -- a value at a key
  abbrev pub WasStored : ℕ → T → Type 0
  WasStored key value =
      (history : List (Entry T)) × (m : Pairs T) × StartsWith history seen × IsHistory same history m
      × (lookup m key ≡ Some value)

  -- each of these pairs, perhaps each at a moment of its own
  abbrev pub WereStored : Pairs T → Type 0
  WereStored [] = Unit {0}
  WereStored (pair ∷ pairs) = WasStored pair.0 pair.1 × WereStored pairs

-- In a buffer whose entries are made of a key and a value
module _ {E : Type 0} (same : ℕ → ℕ → Bool) (seen : List (Entry ℕ)) (entry : ℕ → ℕ → E) where
  -- A RANGE: so many pairs are in its first places, with keys from start on and below end, keys ascending. Each was
  -- stored
  abbrev pub HasRange : ℕ → ℕ → ℕ → List E → Type 0
  HasRange start end count buffer =
      (pairs : Pairs ℕ) × Rises start end pairs × WereStored same seen pairs × (count ≡ length pairs)
      × (take count buffer ≡ map (λ (pair : ℕ × ℕ). entry pair.0 pair.1) pairs)

  -- A PAGE: the first pairs of a range, as many as there are or as fit, all of one moment
  abbrev pub HasPage : ℕ → ℕ → List E → ℕ → List E → Type 0
  HasPage start end before count after =
      (history : List (Entry ℕ)) × (m : Pairs ℕ) × StartsWith history seen × IsHistory same history m
      × IsMap m × IsPage entry start end m before count after
