-- The byte at which a search for the first key from `start` on begins in a node.
use Rattle.std.specs.Prelude.{◌≡◌, ℕ, ◌<◌, ◌≤◌, List, [], ◌∷◌, ◌++◌, length}
use Rattle.spec_node.specs.Key.{low, high}

-- below this prefix, all keys under lesser bytes are before `start`; in a leaf, no other keys are
pub record IsFirstByte (p : List ℕ) (start from : ℕ) : Type 0 where
  pub before : (b : ℕ) → b < from → high (p ++ b ∷ []) ≤ start
  pub not_before : length p ≡ 7 → (b : ℕ) → from ≤ b → start ≤ low (p ++ b ∷ [])
