-- POPS: the first pair or the last one of a range of keys is found while others write, and then removed. The pair is found at
-- moments before that of its removal.
use Rattle.std.specs.Prelude.{◌≡◌, ◌⊎◌, ℕ, zero, suc, ◌<◌, ◌≤◌, Bool, true, false, [], Option, Some, None, Ok, Err}
use Rattle.live_nodes.specs.Known.{Known, MadeCall}
use Rattle.live_updates.specs.Entries.{swapped}
use Rattle.live_scans.specs.Scans.{HasRead, HasBegun, GaveUp, HasNext}
use Rattle.live_scans.specs.Floors.{HasBefore}

-- THE FIRST PAIR (true) or the last with a key from `low` on and below `high` was found by a guard that knew k, or there was
-- none: the keys in the range that come before it, in that direction, were read, or all of them
abbrev pub HasEnd : Bool → ℕ → ℕ → Known → Option (ℕ × ℕ) → Known → Type 0
HasEnd up low high k None n = (seen : HasBegun k n) × HasRead up seen.start.seen n.seen low high []
HasEnd true low high k (Some p) n = (p.0 < high) × HasNext k low (Some p) n
HasEnd false low high k (Some p) n = (low ≤ p.0) × HasBefore k high (Some p) n

module _ (up : Bool) (low high : ℕ) where
  -- THE PAIR WAS REMOVED that the last search found: its value was still the same. Or the search found none
  abbrev pub HasRemoved : Known → Option (ℕ × ℕ) → Known → Type 0
  HasRemoved k None n = HasEnd up low high k None n
  HasRemoved k (Some p) n = (m : Known) × HasEnd up low high k (Some p) m × MadeCall m (swapped m.caller p.0 p.1 None (Ok None)) n

  -- THE PAIR WAS LOST that a search found: its key had another value by then, or none
  abbrev pub HasLost : Known → Known → Type 0
  HasLost k n = (p : ℕ × ℕ) × (current : Option ℕ) × (m : Known) × HasEnd up low high k (Some p) m
      × MadeCall m (swapped m.caller p.0 p.1 None (Err current)) n

  -- so many searches removed nothing, one after the other
  abbrev pub HaveMissed : ℕ → Known → Known → Type 0
  HaveMissed zero k n = n ≡ k
  HaveMissed (suc count) k n = (m : Known) × HaveMissed count k m × (GaveUp m n ⊎ HasLost m n)

  -- A POP REMOVED NOTHING: some searches gave up, or lost their pair
  pub record HasMissed (k n : Known) : Type 0 where
    pub book : n.book ≡ k.book
    pub searches : ℕ
    pub missed : HaveMissed searches k n

  -- A POP by a guard that knew k removed this pair, or found none: its last search did, and those before removed nothing
  abbrev pub HasPopped : Known → Option (ℕ × ℕ) → Known → Type 0
  HasPopped k found n = (m : Known) × HasMissed k m × HasRemoved m found n
