-- A CLEANUP: what it may touch, remembers, holds and has made before each event, and how many events
-- are left.
use Rattle.std.specs.Prelude.{ℕ, ◌+◌, ◌-◌, ◌*◌, List, [], ◌∷◌}
use Rattle.spec_map.specs.Map.{put}
use Rattle.olc_state.specs.declared.cleanup.Cleanup.{Cleanup}
use Rattle.olc_state.specs.declared.cleanup.Seek.{Seek}
use Rattle.olc_state.specs.declared.cleanup.Seek.TheVariants as seek
use Rattle.olc_state.specs.declared.cleanup.Tidy.{Tidy}
use Rattle.olc_state.specs.declared.cleanup.Tidy.TheVariants as tidy
use Rattle.olc_state.specs.inner.Tails.{both_slots, more_work, pair_spots, path_slots, path_spots}

-- the slots that it may touch before it reads on
abbrev pub named_seeking : Seek → List ℕ
named_seeking seek.TakeRoot = []
named_seeking (seek.Read path) = path_slots path
named_seeking (seek.Check path) = path_slots path
named_seeking (seek.TakeBelow path slot) = slot ∷ path_slots path
named_seeking (seek.CheckAbove path spot fits) = spot.slot ∷ path_slots path

abbrev pub named_tidying : Tidy → List ℕ
named_tidying (tidy.UpgradeAbove pair) = both_slots pair
named_tidying (tidy.UpgradeBelow pair) = both_slots pair
named_tidying (tidy.TakeAway pair) = both_slots pair
named_tidying (tidy.MakeSmaller pair) = both_slots pair
named_tidying (tidy.PutSmaller pair copy) = both_slots pair
named_tidying (tidy.UnlockBelow pair) = both_slots pair

-- the words that it remembers of nodes that aren't held
abbrev pub spots_seeking : Seek → List (ℕ × ℕ)
spots_seeking seek.TakeRoot = []
spots_seeking (seek.Read path) = path_spots path
spots_seeking (seek.Check path) = path_spots path
spots_seeking (seek.TakeBelow path slot) = path_spots path
spots_seeking (seek.CheckAbove path spot fits) = put (path_spots path) spot.slot spot.word

abbrev pub spots_tidying : Tidy → List (ℕ × ℕ)
spots_tidying (tidy.UpgradeAbove pair) = pair_spots pair
spots_tidying (tidy.UpgradeBelow pair) = (pair.here.slot, pair.here.word) ∷ []
spots_tidying _ = []

-- the nodes that are held, the last one locked first
abbrev pub held_tidying : Tidy → List ℕ
held_tidying (tidy.UpgradeAbove pair) = []
held_tidying (tidy.UpgradeBelow pair) = pair.above.slot ∷ []
held_tidying (tidy.TakeAway pair) = both_slots pair
held_tidying (tidy.MakeSmaller pair) = both_slots pair
held_tidying (tidy.PutSmaller pair copy) = both_slots pair
held_tidying (tidy.UnlockBelow pair) = both_slots pair

-- the private node
abbrev pub made_tidying : Tidy → List ℕ
made_tidying (tidy.PutSmaller pair copy) = copy ∷ []
made_tidying _ = []

-- HOW MANY EVENTS ARE LEFT at most, whatever others do: on the way down, from a node whose prefix has
-- this length, and at the node
abbrev pub seek_work : Cleanup → Seek → ℕ → ℕ
seek_work c seek.TakeRoot depth = 4 * c.length + 10 + more_work c
seek_work c (seek.Read path) depth = 4 * (c.length - depth) + 9 + more_work c
seek_work c (seek.Check path) depth = 4 * (c.length - depth) + 8 + more_work c
seek_work c (seek.TakeBelow path slot) depth = 4 * (c.length - depth) + 7 + more_work c
seek_work c (seek.CheckAbove path spot fits) depth = 4 * (c.length - depth) + 6 + more_work c

abbrev pub tidy_work : Cleanup → Tidy → ℕ
tidy_work c (tidy.UpgradeAbove pair) = 7 + more_work c
tidy_work c (tidy.UpgradeBelow pair) = 6 + more_work c
tidy_work c (tidy.TakeAway pair) = 4 + more_work c
tidy_work c (tidy.MakeSmaller pair) = 5
tidy_work c (tidy.PutSmaller pair copy) = 4
tidy_work c (tidy.UnlockBelow pair) = 3
