-- The two ends of an ordered map, and the neighbours of a key in it: each a pair, or nothing where the map has none.
use Rattle.std.specs.Prelude.{ℕ, ◌+◌, ◌^◌, List, [], ◌∷◌, Option, Some, None}
use Rattle.spec_map.specs.Call.{Near, first, last, floor, below, ceiling, above}
use Rattle.spec_map.specs.Map.{without, between}

module _ {V : Type 0} where
  -- the first pair of a list, and the last
  abbrev pub first_of : List (ℕ × V) → Option (ℕ × V)
  first_of [] = None
  first_of (e ∷ es) = Some e

  abbrev pub last_of : List (ℕ × V) → Option (ℕ × V)
  last_of [] = None
  last_of (e ∷ []) = Some e
  last_of (e ∷ f ∷ es) = last_of (f ∷ es)

  -- the pair with the greatest key that is at most k, and below k
  abbrev pub floor_of : List (ℕ × V) → ℕ → Option (ℕ × V)
  floor_of es k = last_of (between es 0 (k + 1))

  abbrev pub below_of : List (ℕ × V) → ℕ → Option (ℕ × V)
  below_of es k = last_of (between es 0 k)

  -- the pair with the least key that is at least k, and above k
  abbrev pub ceiling_of : List (ℕ × V) → ℕ → Option (ℕ × V)
  ceiling_of es k = first_of (between es k (2 ^ 64))

  abbrev pub above_of : List (ℕ × V) → ℕ → Option (ℕ × V)
  above_of es k = first_of (between es (k + 1) (2 ^ 64))

  -- the same by data
  abbrev pub pair_near : List (ℕ × V) → Near ℕ → Option (ℕ × V)
  pair_near es first = first_of es
  pair_near es last = last_of es
  pair_near es (floor k) = floor_of es k
  pair_near es (below k) = below_of es k
  pair_near es (ceiling k) = ceiling_of es k
  pair_near es (above k) = above_of es k

  -- the map without this pair, if there is one
  abbrev pub without_pair : List (ℕ × V) → Option (ℕ × V) → List (ℕ × V)
  without_pair es None = es
  without_pair es (Some e) = without es e.0
