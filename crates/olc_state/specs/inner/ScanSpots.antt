-- The words that a range remembers, and the slots that it may touch.
use Rattle.std.specs.Prelude.{ℕ, List, [], ◌∷◌}
use Rattle.spec_map.specs.Map.{put}
use Rattle.olc_state.specs.declared.scan.Scan.{Scan}
use Rattle.olc_state.specs.declared.scan.Scan.TheVariants.{TakeRoot, Read, Check, TakeBelow, CheckAbove, Finish}
use Rattle.olc_state.specs.declared.stage.Spot.{Spot}

abbrev pub spot_word : Spot → List (ℕ × ℕ)
spot_word spot = (spot.slot, spot.word) ∷ []

-- the words that it remembers of slots, and the slots that it may touch before it reads on
abbrev pub spots_on : Scan → List (ℕ × ℕ)
spots_on TakeRoot = []
spots_on (Read spot) = spot_word spot
spots_on (Check spot) = spot_word spot
spots_on (TakeBelow spot slot) = spot_word spot
spots_on (CheckAbove spot below from) = put (spot_word spot) below.slot below.word
spots_on Finish = []

abbrev pub named_on : Scan → List ℕ
named_on TakeRoot = []
named_on (Read spot) = spot.slot ∷ []
named_on (Check spot) = spot.slot ∷ []
named_on (TakeBelow spot slot) = slot ∷ spot.slot ∷ []
named_on (CheckAbove spot below from) = below.slot ∷ spot.slot ∷ []
named_on Finish = []
