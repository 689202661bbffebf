-- WHAT WAS READ of many keys while others write. It is no snapshot: each key was read at a moment of its own.
use Rattle.std.specs.Prelude.{◌≡◌, ◌⊎◌, ℕ, zero, suc, ◌+◌, ◌/◌, ◌^◌, ◌<◌, ◌≤◌, Bool, true, nat_eq, List, [], ◌∷◌, length, Option, Some, None}
use Rattle.spec_map.specs.Map.{Pairs, lookup, Rises}
use Rattle.share_rule.specs.History.{Entry, StartsWith, IsHistory}
use Rattle.live_layout.specs.Order.{IsFrom}
use Rattle.live_nodes.specs.Known.{Known, MadeCall}
use Rattle.live_nodes.specs.Begun.{began}
use Rattle.live_reads.specs.Meetings.{SeenMore}

-- a moment of the map: a legal history, and the map that it leads to
pub record Moment : Type 0 where
  pub history : List (Entry ℕ)
  pub pairs : Pairs ℕ

-- It begins with one history, and another begins with it.
abbrev pub IsBetween : List (Entry ℕ) → List (Entry ℕ) → Moment → Type 0
IsBetween old new m = IsHistory nat_eq m.history m.pairs × StartsWith m.history old × StartsWith new m.history

-- THE KEYS from `low` on and below `high` WERE READ, upwards (true) or downwards, by who had seen the history `old` and has
-- seen `new` then. Each key has a moment in between, and the pairs have what the map had at that moment. No moment is before
-- that of a key that was read earlier. Keys with the same upper seven bytes have one moment. The pairs ascend
pub record HasRead (up : Bool) (old new : List (Entry ℕ)) (low high : ℕ) (pairs : Pairs ℕ) : Type 0 where
  pub moment : ℕ → Moment
  pub between : (k : ℕ) → low ≤ k → k < high → IsBetween old new (moment k)
  pub value : (k : ℕ) → low ≤ k → k < high → lookup pairs k ≡ lookup (moment k).pairs k
  pub order : (j k : ℕ) → low ≤ j → j < high → low ≤ k → k < high → IsFrom up j k
      → StartsWith (moment k).history (moment j).history
  pub leaf : (j k : ℕ) → low ≤ j → j < high → low ≤ k → k < high → j / 256 ≡ k / 256 → moment j ≡ moment k
  pub ascend : Rises low high pairs

-- A READER BEGAN: it entered a range of no pairs, which is the last that it had seen then. It has seen more since
pub record HasBegun (k n : Known) : Type 0 where
  pub start : Known
  pub begun : MadeCall k (began k.caller) start
  pub later : SeenMore start n

-- A READER GAVE UP: it entered nothing and has seen no more, or it began
abbrev pub GaveUp : Known → Known → Type 0
GaveUp k n = (n ≡ k) ⊎ HasBegun k n

-- so many readers gave up, one after the other
abbrev pub HaveGivenUp : ℕ → Known → Known → Type 0
HaveGivenUp zero k n = n ≡ k
HaveGivenUp (suc count) k n = (m : Known) × HaveGivenUp count k m × GaveUp m n

-- A READER WAITED: some tries gave up
pub record HasWaited (k n : Known) : Type 0 where
  pub book : n.book ≡ k.book
  pub tries : ℕ
  pub gave_up : HaveGivenUp tries k n

-- The last try of a reader that waited did this.
abbrev pub Waits : Known → (Known → Type 0) → Type 0
Waits k Does = (m : Known) × HasWaited k m × Does m

-- A PAGE of the keys from `low` on and below `high` was read by a guard that knew k, which has room for so many pairs. The
-- keys below `end` were read, each at a moment after the reader began. That is all of them, unless the page is full
pub record HasPage (k : Known) (low high room : ℕ) (pairs : Pairs ℕ) (n : Known) : Type 0 where
  pub seen : HasBegun k n
  pub end : ℕ
  pub inside : end ≤ high
  pub whole : length pairs < room → end ≡ high
  pub read : HasRead true seen.start.seen n.seen low end pairs

-- THE NEXT PAIR from a key on was found by a guard that knew k, or there was none: the keys before it were read
abbrev pub HasNext : Known → ℕ → Option (ℕ × ℕ) → Known → Type 0
HasNext k low None n = (seen : HasBegun k n) × HasRead true seen.start.seen n.seen low (2 ^ 64) []
HasNext k low (Some p) n = (seen : HasBegun k n) × HasRead true seen.start.seen n.seen low (p.0 + 1) (p ∷ [])
