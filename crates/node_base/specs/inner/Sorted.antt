-- Bytes in ascending order, and children beside them.
use Rattle.std.specs.Prelude.{◌≡◌, ℕ, ◌+◌, ◌≤◌, List, [], ◌∷◌, length, if◌then◌else◌, nat_lt}
use Rattle.spec_map.specs.Map.{Rises}

-- how many bytes at the front are below this one
abbrev pub below : List ℕ → ℕ → ℕ
below [] k = 0
below (x ∷ xs) k = if nat_lt x k then below xs k + 1 else 0

-- each child with its byte; bytes beyond the children don't count
abbrev pub pairs : {C : Type 0} → List ℕ → List C → List (ℕ × C)
pairs [] cs = []
pairs (k ∷ ks) [] = []
pairs (k ∷ ks) (c ∷ cs) = (k, c) ∷ pairs ks cs

-- what each node with bytes beside children keeps
pub record IsSorted {C : Type 0} (most : ℕ) (keys : List ℕ) (children : List C) (count : ℕ) : Type 0 where
  pub ascending : Rises 0 256 (pairs keys children)
  pub long : length keys ≡ most
  pub within : length children ≤ most
  pub counted : count ≡ length children
