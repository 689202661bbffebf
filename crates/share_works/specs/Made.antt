-- The operations that calls enter in a history, and what a caller knows after them.
use Rattle.std.specs.Prelude.{◌≡◌, ℕ, ◌^◌, List, [], ◌∷◌, ◌++◌, None, Some, length, filter, is_none}
use Rattle.share_rule.specs.Known.{Known, MadeCall, MadeCalls}
use Rattle.spec_map.specs.Call.{Call, count, range, remove, Operation, Reply, replied, counted, old_value, ranged}
use Rattle.spec_map.specs.Map.{Pairs, lookup}
use Rattle.spec_olc.specs.Runs.{same_number}

-- a call without a closure, and its reply
abbrev pub returned : Call ℕ ℕ → Reply ℕ ℕ ℕ → Operation ℕ ℕ ℕ
returned call reply = record { call = call; asked = None; answer = replied reply }

-- if there is no operation after the first, the first is the only one that was made
abbrev pub IsOnly : List (Operation ℕ ℕ ℕ) → Operation ℕ ℕ ℕ → Known ℕ → Known ℕ → Type 0
IsOnly [] first k n = MadeCall same_number k first n
IsOnly (next ∷ later) first k n = Unit {0}

-- what is known after these operations: they were made, or there were none and nothing more is seen
abbrev pub KnowsBy : List (Operation ℕ ℕ ℕ) → Known ℕ → Known ℕ → Type 0
KnowsBy [] k n = n ≡ k
KnowsBy (first ∷ later) k n = MadeCalls same_number k (first ∷ later) n × IsOnly later first k n

-- the pairs of a range, all of them: as many at most as the map has, which was counted before
abbrev pub listing : ℕ → ℕ → ℕ → Pairs ℕ → List (Operation ℕ ℕ ℕ)
listing start end total pairs = returned count (counted total) ∷ returned (range start end total) (ranged pairs) ∷ []

-- these pairs are removed, one after another
abbrev pub removals : Pairs ℕ → List (Operation ℕ ℕ ℕ)
removals [] = []
removals (pair ∷ pairs) = returned (remove pair.0) (old_value (Some pair.1)) ∷ removals pairs

-- A CLEAR of a map with these pairs: they are counted and removed, and none is left
abbrev pub clearing : Pairs ℕ → List (Operation ℕ ℕ ℕ)
clearing pairs = returned count (counted (length pairs)) ∷ (removals pairs ++ returned count (counted 0) ∷ [])

-- A REMOVAL OF A RANGE of a map that has so many pairs: the range's pairs are listed, and removed
abbrev pub range_removal : ℕ → ℕ → ℕ → Pairs ℕ → List (Operation ℕ ℕ ℕ)
range_removal start end total pairs =
    returned count (counted total) ∷ returned (range start end total) (ranged pairs) ∷ removals pairs

-- those of these pairs whose keys the others don't have
abbrev pub gone : Pairs ℕ → Pairs ℕ → Pairs ℕ
gone pairs kept = filter (λ (pair : ℕ × ℕ). is_none (lookup kept pair.0)) pairs

-- A RETAIN of a map with these pairs: they are listed, all of them, and those that aren't kept are removed
abbrev pub retaining : Pairs ℕ → Pairs ℕ → List (Operation ℕ ℕ ℕ)
retaining pairs kept =
    returned count (counted (length pairs)) ∷ returned (range 0 (2 ^ 64) (length pairs)) (ranged pairs) ∷ removals (gone pairs kept)
