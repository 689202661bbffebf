-- WHAT IS READ of a map at one moment.
use Rattle.std.specs.Prelude.{◌≡◌, ℕ, ◌++◌, List, length, map, min, take, drop}
use Rattle.spec_map.specs.Map.{Pairs, between}

-- m is the content, and nothing else is
pub record IsTheContent {T : Type 0} (content : Pairs T → Type 0) (m : Pairs T) : Type 0 where
  pub stored : content m
  pub only : (n : Pairs T) → content n → n ≡ m

-- A PAGE, in a buffer whose entries are made of a key and a value: the first pairs of a range of m are at its start, as
-- many as there are or as fit, and the rest is as it was
abbrev pub IsPage : {E : Type 0} → (ℕ → ℕ → E) → ℕ → ℕ → Pairs ℕ → List E → ℕ → List E → Type 0
IsPage entry start end m before count after =
    (count ≡ min (length before) (length (between m start end)))
    × (after ≡ take count (map (λ (pair : ℕ × ℕ). entry pair.0 pair.1) (between m start end)) ++ drop count before)
