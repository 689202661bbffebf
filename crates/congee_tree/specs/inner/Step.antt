-- One step of a call that changes many pairs.
use Rattle.std.specs.Prelude.{◌≡◌, ℕ, Bool, true, false, Option, Some, None, if◌then◌else◌}
use Rattle.spec_map.specs.Map.{Pairs, lookup, without, between}
use Rattle.tree_walk.specs.Scan.{from_key, first_number, first_pair}

-- A closure is asked about the first pair from a key on, which stays or goes, and whose key is the result.
module _ {F P : Type 0} (step : F → ℕ × P → Bool → F → Type 0) (f : F) (m : Pairs P) (from : ℕ) where
  abbrev pub Asks : Option ℕ → F → Pairs P → Type 0
  Asks None next n = (first_pair (from_key from m) ≡ None) × (next ≡ f) × (n ≡ m)
  Asks (Some k) next n = (v : P) × (stays : Bool)
      × (first_pair (from_key from m) ≡ Some (k, v))
      × step f (k, v) stays next
      × (n ≡ (if stays then m else without m k))

-- The first pair between two keys goes, and a closure is called with it. The result is whether there was one.
module _ {F P : Type 0} (step : F → ℕ × P → F → Type 0) (f : F) (m : Pairs P) (low high : ℕ) where
  abbrev pub Extracts : Bool → F → Pairs P → Type 0
  Extracts false next n = (None ≡ first_number (between m low high)) × (next ≡ f) × (n ≡ m)
  Extracts true next n = (k : ℕ) × (v : P)
      × (Some k ≡ first_number (between m low high))
      × (Some v ≡ lookup m k)
      × step f (k, v) next
      × (n ≡ without m k)
