-- What a range writes to a buffer, and the calls that it enters in the history.
use Rattle.std.specs.Prelude.{◌≡◌, ℕ, ◌++◌, List, length, map, min, take, drop, reverse}
use Rattle.share_rule.specs.Known.{Known, MadeCall, MadeCalls}
use Rattle.share_works.specs.Made.{returned, listing}
use Rattle.spec_map.specs.Call.{range, ranged}
use Rattle.spec_map.specs.Map.{Pairs}
use Rattle.spec_olc.specs.Runs.{same_number}

-- By a guard that knew k, in a buffer whose entries are made of a key and a value
module _ {E : Type 0} (entry : ℕ → ℕ → E) (k : Known ℕ) where
  -- the first pairs of a range are at the buffer's start, as many as there are or as fit, and the rest is as it was
  abbrev pub ListsFirst : ℕ → ℕ → List E → ℕ → List E → Known ℕ → Type 0
  ListsFirst start end before count after n =
      (pairs : Pairs ℕ) × MadeCall same_number k (returned (range start end (length before)) (ranged pairs)) n
      × (count ≡ length pairs)
      × (after ≡ map (λ (pair : ℕ × ℕ). entry pair.0 pair.1) pairs ++ drop (length pairs) before)

  -- the last pairs of a range are there, descending
  abbrev pub ListsLast : ℕ → ℕ → List E → ℕ → List E → Known ℕ → Type 0
  ListsLast start end before count after n =
      (total : ℕ) × (pairs : Pairs ℕ) × MadeCalls same_number k (listing start end total pairs) n
      × (count ≡ min (length before) (length pairs))
      × (after ≡ take count (map (λ (pair : ℕ × ℕ). entry pair.0 pair.1) (reverse pairs)) ++ drop count before)
