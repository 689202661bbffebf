-- The ends of a map and the neighbours of a key, as the calls name them.
use Rattle.std.specs.Prelude.{ℕ, List, [], ◌∷◌, Option, Some, None}
use Rattle.share_works.specs.Made.{returned}
use Rattle.share_works.specs.declared.near.Near.{Near}
use Rattle.share_works.specs.declared.near.Near.TheVariants.{First, Last, Floor, Below, Ceiling, Above}
use Rattle.spec_map.specs.Call.{Near as Place, first, last, floor, below, ceiling, above, Operation, nearest, found, remove, old_value}

-- the same in a call of the map
abbrev pub near_of : Near → Place ℕ
near_of First = first
near_of Last = last
near_of (Floor key) = floor key
near_of (Below key) = below key
near_of (Ceiling key) = ceiling key
near_of (Above key) = above key

-- A POP: the pair there was found, and was removed if there was one
abbrev pub popping : Place ℕ → Option (ℕ × ℕ) → List (Operation ℕ ℕ ℕ)
popping place None = returned (nearest place) (found None) ∷ []
popping place (Some pair) = returned (nearest place) (found (Some pair)) ∷ returned (remove pair.0) (old_value (Some pair.1)) ∷ []
