-- What a range writes to a buffer.
use Rattle.std.specs.Prelude.{◌≡◌, ℕ, ◌++◌, Bool, true, false, List, length, map, min, take, drop, reverse}
use Rattle.spec_map.specs.Map.{Pairs}

-- the first of these pairs are in the buffer, as many as there are or as fit
pub record AreWritten {E : Type 0} (entry : ℕ → ℕ → E) (pairs : Pairs ℕ) (before : List E) (count : ℕ) (after : List E) : Type 0 where
  pub as_many : count ≡ min (length before) (length pairs)
  pub entries : after ≡ take count (map (λ (pair : ℕ × ℕ). entry pair.0 pair.1) pairs) ++ drop count before

-- the pairs of a range, ascending, or descending for `true`
abbrev pub listed : Bool → Pairs ℕ → Pairs ℕ
listed false pairs = pairs
listed true pairs = reverse pairs
