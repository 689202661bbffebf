-- The ends of a map and the neighbours of a key, as calls name them.
use Rattle.std.specs.Prelude.{ℕ}
use Rattle.share_visits.specs.declared.near.Near.{Near}
use Rattle.share_visits.specs.declared.near.Near.TheVariants.{First, Last, Floor, Below, Ceiling, Above}
use Rattle.spec_map.specs.Call.{Near as Place, first, last, floor, below, ceiling, above}

-- the same in a call of the map
abbrev pub near_of : Near → Place ℕ
near_of First = first
near_of Last = last
near_of (Floor key) = floor key
near_of (Below key) = below key
near_of (Ceiling key) = ceiling key
near_of (Above key) = above key
