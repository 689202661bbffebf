-- A RETAIN: pairs are read while others write, a closure is asked about each, and those for which it answers no are removed.
-- `step` are the calls of the closure: its state before the call, the pair that it is called with, what it answers, and its
-- state after the call.
use Rattle.std.specs.Prelude.{◌≡◌, ◌⊎◌, ℕ, zero, suc, ◌+◌, Bool, true, false, [], ◌∷◌, Some, None, Ok, Err}
use Rattle.spec_map.specs.Map.{Pairs}
use Rattle.live_nodes.specs.Known.{Known, MadeCall}
use Rattle.live_updates.specs.Entries.{swapped}
use Rattle.live_scans.specs.Scans.{HasRead, HasBegun, Waits}

-- the pairs with keys from `low` on and below `high` were read by a guard that knew k
abbrev pub HasListed : ℕ → ℕ → Pairs ℕ → Known → Known → Type 0
HasListed low high ps k n = (seen : HasBegun k n) × HasRead true seen.start.seen n.seen low high ps

-- how many pairs were removed, if one was or not
abbrev pub one_if : Bool → ℕ
one_if true = 1
one_if false = 0

module _ {F : Type 0} (step : F → ℕ × ℕ → Bool → F → Type 0) where
  -- THE VALUE CHANGED so many times, from x to y: the closure answered no, and the key had another value by then
  abbrev pub HaveChanged : ℕ → ℕ → ℕ → F → Known → ℕ → F → Known → Type 0
  HaveChanged zero key x f k y g n = (y ≡ x) × (g ≡ f) × (n ≡ k)
  HaveChanged (suc times) key x f k y g n = (z : ℕ) × (h : F) × (m : Known) × HaveChanged times key x f k z h m
      × step h (key, z) false g × MadeCall m (swapped m.caller key z None (Err (Some y))) n

  -- THE LAST QUESTION: no, and the pair was removed with this value (true). Yes, or no and the key was absent by then (false)
  abbrev pub IsSettled : Bool → ℕ → ℕ → F → Known → F → Known → Type 0
  IsSettled true key y f k g n = step f (key, y) false g × MadeCall k (swapped k.caller key y None (Ok None)) n
  IsSettled false key y f k g n = (step f (key, y) true g × (n ≡ k))
      ⊎ (step f (key, y) false g × MadeCall k (swapped k.caller key y None (Err None)) n)

  -- A PAIR WAS JUDGED, and removed or not: the closure was asked about its value, and again about each other one that was met
  abbrev pub HasJudged : Bool → ℕ × ℕ → F → Known → F → Known → Type 0
  HasJudged removed p f k g n = (times : ℕ) × (y : ℕ) × (h : F) × (m : Known)
      × HaveChanged times p.0 p.1 f k y h m × IsSettled removed p.0 y h m g n

  -- THESE PAIRS WERE JUDGED in their order, and so many of them removed
  abbrev pub HaveJudged : Pairs ℕ → ℕ → F → Known → F → Known → Type 0
  HaveJudged [] count f k g n = (count ≡ 0) × (g ≡ f) × (n ≡ k)
  HaveJudged (p ∷ ps) count f k g n = (removed : Bool) × (rest : ℕ) × (h : F) × (m : Known) × (count ≡ one_if removed + rest)
      × HasJudged removed p f k h m × HaveJudged ps rest h m g n

  -- THE KEYS from `low` on and below `end` WERE GONE THROUGH, in so many parts: of each the pairs were read, and judged
  abbrev pub HaveGone : ℕ → ℕ → ℕ → ℕ → F → Known → F → Known → Type 0
  HaveGone zero low end count f k g n = (end ≡ low) × (count ≡ 0) × (g ≡ f) × (n ≡ k)
  HaveGone (suc parts) low end count f k g n = (from : ℕ) × (before : ℕ) × (these : ℕ) × (h : F) × (m : Known) × (i : Known) × (ps : Pairs ℕ)
      × HaveGone parts low from before f k h m × Waits m (λ l. HasListed from end ps l i) × HaveJudged ps these h i g n × (count ≡ before + these)

  -- A RANGE WAS RETAINED by a guard that knew k: all its keys were gone through, and so many pairs removed
  abbrev pub HasRetained : ℕ → ℕ → ℕ → F → Known → F → Known → Type 0
  HasRetained low high count f k g n = (parts : ℕ) × HaveGone parts low high count f k g n
