-- Words that are read as a value.
use Rattle.std.specs.Prelude.{◌≡◌, ℕ, ◌<◌, ◌^◌, List, Option, Some, None, MatchOption}

-- these words are read as this value, or as none
abbrev pub ReadsWords : {C : Type 0} → (C → List (List ℕ)) → (C → Type 0)
    → List (List ℕ) → Option C → Type 0
ReadsWords {C} words Fits given result = MatchOption result
    ((value : C) → Fits value → words value ≡ given → ⊥)
    (λ value. Fits value × (words value ≡ given))

-- a value, if there is one, has 64 bits
abbrev pub FitsU64 : Option ℕ → Type 0
FitsU64 None = Unit {0}
FitsU64 (Some value) = value < 2 ^ 64
