-- What a handle of a frozen map reads.
use Rattle.std.specs.Prelude.{◌≡◌, ℕ, []}
use Rattle.std.specs.Arc.{arc_value}
use Rattle.spec_map.specs.Map.{Pairs}
use Rattle.congee_c.specs.declared.held.Held.{Held}
use Rattle.congee_c.specs.declared.frozen.reader.Reader.{Reader}
use Rattle.congee_c.specs.declared.frozen.reader.Reader.TheVariants.{Of, Empty}

-- the pairs of its map
abbrev pub pairs_of : Reader → Pairs ℕ
pairs_of (Of share) = (arc_value share).value.map.pairs
pairs_of Empty = []

-- its map is this one: the same pairs, by the same nodes, under the same limit
abbrev pub IsReaderOf : Reader → Held → Type 0
IsReaderOf (Of share) held = (arc_value share).value ≡ held
IsReaderOf Empty held = ⊥

-- both read the same map
abbrev pub ReadSame : Reader → Reader → Type 0
ReadSame (Of one) (Of other) = (arc_value one).value ≡ (arc_value other).value
ReadSame (Of one) Empty = ⊥
ReadSame Empty (Of other) = ⊥
ReadSame Empty Empty = ⊥
