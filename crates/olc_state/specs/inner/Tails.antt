-- THE TAILS: what a call holds, has made and remembers before each event that writes, and how many
-- events it has left.
use Rattle.std.specs.Prelude.{ℕ, ◌+◌, ◌*◌, List, [], ◌∷◌, Option, Some, None, if◌then◌else◌}
use Rattle.spec_map.specs.Map.{put}
use Rattle.spec_olc.specs.State.{Cleaning}
use Rattle.spec_olc.specs.declared.types.Progress.{Progress}
use Rattle.spec_olc.specs.declared.types.Progress.TheVariants.{Open}
use Rattle.olc_state.specs.declared.cleanup.Cleanup.{Cleanup}
use Rattle.olc_state.specs.declared.stage.Path.{Path}
use Rattle.olc_state.specs.declared.stage.Spot.{Spot}
use Rattle.olc_state.specs.declared.tail.Case.{Case}
use Rattle.olc_state.specs.declared.tail.Case.TheVariants as case
use Rattle.olc_state.specs.declared.tail.Large.{Large}
use Rattle.olc_state.specs.declared.tail.Large.TheVariants.{GrowLeaf, GrowInner, Split, Detach}
use Rattle.olc_state.specs.declared.tail.NodePair.{NodePair}
use Rattle.olc_state.specs.declared.tail.Small.{Small}
use Rattle.olc_state.specs.declared.tail.Small.TheVariants.{Entry, Leaf}
use Rattle.olc_state.specs.declared.tail.Tail.{Tail}
use Rattle.olc_state.specs.declared.tail.Tail.TheVariants.{Upgrade, Write, MakeLeaf, Link, Unlock, UpgradeAbove, UpgradeBelow, MakeLeafBelow, Grow, MakeMiddle, Replace, Insert, Obsolete, UnlockBelow}
use Rattle.olc_state.specs.declared.tail.Tail.TheVariants as tail

abbrev pub above_slots : Option Spot → List ℕ
above_slots None = []
above_slots (Some s) = s.slot ∷ []

abbrev pub path_slots : Path → List ℕ
path_slots path = path.here.slot ∷ above_slots path.above

abbrev pub above_spots : Option Spot → List (ℕ × ℕ)
above_spots None = []
above_spots (Some s) = (s.slot, s.word) ∷ []

abbrev pub path_spots : Path → List (ℕ × ℕ)
path_spots path = put (above_spots path.above) path.here.slot path.here.word

abbrev pub both_slots : NodePair → List ℕ
both_slots pair = pair.here.slot ∷ pair.above.slot ∷ []

abbrev pub one_more : Option ℕ → List ℕ
one_more None = []
one_more (Some slot) = slot ∷ []

-- the slots that it may touch
abbrev pub named_in : Tail → List ℕ
named_in (Upgrade path small) = path_slots path
named_in (Write spot) = spot.slot ∷ []
named_in (MakeLeaf spot) = spot.slot ∷ []
named_in (Link spot leaf) = spot.slot ∷ []
named_in (Unlock spot left) = spot.slot ∷ []
named_in (UpgradeAbove pair large) = both_slots pair
named_in (UpgradeBelow pair large) = both_slots pair
named_in (MakeLeafBelow pair large) = both_slots pair
named_in (Grow pair leaf) = both_slots pair
named_in (MakeMiddle pair leaf) = both_slots pair
named_in (Replace pair copy leaf) = both_slots pair
named_in (Insert pair middle leaf) = both_slots pair
named_in (tail.Detach pair) = both_slots pair
named_in (Obsolete pair left) = both_slots pair
named_in (UnlockBelow pair) = both_slots pair

-- the nodes that are held, the last one locked first
abbrev pub held_in : Tail → List ℕ
held_in (Upgrade path small) = []
held_in (Write spot) = spot.slot ∷ []
held_in (MakeLeaf spot) = spot.slot ∷ []
held_in (Link spot leaf) = spot.slot ∷ []
held_in (Unlock spot left) = spot.slot ∷ []
held_in (UpgradeAbove pair large) = []
held_in (UpgradeBelow pair large) = pair.above.slot ∷ []
held_in (MakeLeafBelow pair large) = both_slots pair
held_in (Grow pair leaf) = both_slots pair
held_in (MakeMiddle pair leaf) = both_slots pair
held_in (Replace pair copy leaf) = both_slots pair
held_in (Insert pair middle leaf) = both_slots pair
held_in (tail.Detach pair) = both_slots pair
held_in (Obsolete pair left) = both_slots pair
held_in (UnlockBelow pair) = both_slots pair

-- the private nodes, the last one made first
abbrev pub made_in : Tail → List ℕ
made_in (Upgrade path small) = []
made_in (Write spot) = []
made_in (MakeLeaf spot) = []
made_in (Link spot leaf) = leaf ∷ []
made_in (Unlock spot left) = []
made_in (UpgradeAbove pair large) = []
made_in (UpgradeBelow pair large) = []
made_in (MakeLeafBelow pair large) = []
made_in (Grow pair leaf) = one_more leaf
made_in (MakeMiddle pair leaf) = leaf ∷ []
made_in (Replace pair copy leaf) = copy ∷ one_more leaf
made_in (Insert pair middle leaf) = middle ∷ leaf ∷ []
made_in (tail.Detach pair) = []
made_in (Obsolete pair left) = []
made_in (UnlockBelow pair) = []

-- the words that are remembered of nodes that aren't held
abbrev pub pair_spots : NodePair → List (ℕ × ℕ)
pair_spots pair = put ((pair.above.slot, pair.above.word) ∷ []) pair.here.slot pair.here.word

abbrev pub spots_in : Tail → List (ℕ × ℕ)
spots_in (Upgrade path small) = path_spots path
spots_in (Write spot) = []
spots_in (MakeLeaf spot) = []
spots_in (Link spot leaf) = []
spots_in (Unlock spot left) = []
spots_in (UpgradeAbove pair large) = pair_spots pair
spots_in (UpgradeBelow pair large) = (pair.here.slot, pair.here.word) ∷ []
spots_in (MakeLeafBelow pair large) = []
spots_in (Grow pair leaf) = []
spots_in (MakeMiddle pair leaf) = []
spots_in (Replace pair copy leaf) = []
spots_in (Insert pair middle leaf) = []
spots_in (tail.Detach pair) = []
spots_in (Obsolete pair left) = []
spots_in (UnlockBelow pair) = []

-- the cleanup that a call has to make after its tail
abbrev pub cleaning_of : Cleanup → Cleaning
cleaning_of c = record { depth = c.length; again = c.again }

abbrev pub left_in : Option Cleanup → Option Cleaning
left_in None = None
left_in (Some c) = Some (cleaning_of c)

abbrev pub cleaning_in : Tail → Option Cleaning
cleaning_in (Unlock spot left) = left_in left
cleaning_in (Obsolete pair left) = left_in left
cleaning_in tail = None

-- what a call remembers that waits for its closure's answer
abbrev pub case_slots : Case → List ℕ
case_slots (case.Present pair only) = both_slots pair
case_slots (case.Small path small) = path_slots path
case_slots (case.Large pair large) = both_slots pair

abbrev pub case_spots : Case → List (ℕ × ℕ)
case_spots (case.Present pair only) = pair_spots pair
case_spots (case.Small path small) = path_spots path
case_spots (case.Large pair large) = pair_spots pair

-- how many events are left if the call runs alone
abbrev pub small_work : Small → ℕ
small_work Entry = 3
small_work Leaf = 4

abbrev pub large_work : Large → ℕ
large_work GrowLeaf = 5
large_work GrowInner = 6
large_work Split = 6
large_work Detach = 4

-- of a cleanup, those of a second one
abbrev pub more_work : Cleanup → ℕ
more_work c = if c.again then 4 * c.length + 5 else 0

-- an Unlock without a reply leads back to the root, as does one before a cleanup
abbrev pub unlock_work : Progress → Option Cleanup → ℕ
unlock_work Open left = 40
unlock_work _ None = 2
unlock_work _ (Some c) = 4 * c.length + 11 + more_work c

abbrev pub tail_work : Progress → Tail → ℕ
tail_work progress (Upgrade path small) = 1 + small_work small
tail_work progress (Write spot) = 3
tail_work progress (MakeLeaf spot) = 4
tail_work progress (Link spot leaf) = 3
tail_work progress (Unlock spot left) = unlock_work progress left
tail_work progress (UpgradeAbove pair large) = 2 + large_work large
tail_work progress (UpgradeBelow pair large) = 1 + large_work large
tail_work progress (MakeLeafBelow pair large) = 6
tail_work progress (Grow pair leaf) = 5
tail_work progress (MakeMiddle pair leaf) = 5
tail_work progress (Replace pair copy leaf) = 4
tail_work progress (Insert pair middle leaf) = 4
tail_work progress (tail.Detach pair) = 4
tail_work progress (Obsolete pair left) = 1 + unlock_work progress left
tail_work progress (UnlockBelow pair) = 3

-- an answer for a present key may take the leaf out
abbrev pub case_work : Case → ℕ
case_work (case.Present pair only) = 7
case_work (case.Small path small) = 2 + small_work small
case_work (case.Large pair large) = 3 + large_work large
