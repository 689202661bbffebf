-- Keys that are read upwards (true) or downwards.
use Rattle.std.specs.Prelude.{◌≡◌, ◌⊎◌, ℕ, ◌+◌, ◌%◌, Bool, true, false, reverse}
use Rattle.spec_map.specs.Map.{Pairs}

-- of the keys from one to another, both with them, the least, and the one above the greatest
abbrev pub low_of : Bool → ℕ → ℕ → ℕ
low_of true from to = from
low_of false from to = to

abbrev pub high_of : Bool → ℕ → ℕ → ℕ
high_of true from to = to + 1
high_of false from to = from + 1

-- This is the last key of a leaf in that direction.
abbrev pub EndsLeaf : Bool → ℕ → Type 0
EndsLeaf true key = (key + 1) % 256 ≡ 0
EndsLeaf false key = key % 256 ≡ 0

-- It is the first one of a leaf in that direction, or of those that are read.
abbrev pub BeginsLeaf : Bool → ℕ → ℕ → Type 0
BeginsLeaf true key from = (from % 256 ≡ 0) ⊎ (key ≡ from)
BeginsLeaf false key from = ((from + 1) % 256 ≡ 0) ⊎ (from + 1 ≡ key + 1)

-- This is the next key.
abbrev pub IsNextKey : Bool → ℕ → ℕ → Type 0
IsNextKey true key next = next ≡ key + 1
IsNextKey false key next = key ≡ next + 1

-- pairs in the order in which they were found, ascending
abbrev pub ascending : Bool → Pairs ℕ → Pairs ℕ
ascending true pairs = pairs
ascending false pairs = reverse pairs
