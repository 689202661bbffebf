-- The ordered map: the list of its pairs, keys ascending, each key once.
use Rattle.std.specs.Prelude.{ℕ, ◌+◌, ◌<◌, ◌≤◌, ◌^◌, ◌&&◌, List, [], ◌∷◌, Option, Some, None, if◌then◌else◌, ◌==◌, nat_lt, nat_le, filter}

-- the pairs of a key and a value
abbrev pub Pairs : Type 0 → Type 0
Pairs V = List (ℕ × V)

module _ {V : Type 0} where
  -- the value at a key
  abbrev pub lookup : List (ℕ × V) → ℕ → Option V
  lookup [] k = None
  lookup (e ∷ es) k = if e.0 == k then Some e.1 else lookup es k

  -- the map with this value at the key
  abbrev pub put : List (ℕ × V) → ℕ → V → List (ℕ × V)
  put [] k v = (k, v) ∷ []
  put (e ∷ es) k v =
      if nat_lt e.0 k then e ∷ put es k v else (if e.0 == k then (k, v) ∷ es else (k, v) ∷ e ∷ es)

  -- the map without the key
  abbrev pub without : List (ℕ × V) → ℕ → List (ℕ × V)
  without [] k = []
  without (e ∷ es) k = if e.0 == k then es else e ∷ without es k

  -- the map with this value at the key, or without the key
  abbrev pub with_answer : List (ℕ × V) → ℕ → Option V → List (ℕ × V)
  with_answer es k (Some v) = put es k v
  with_answer es k None = without es k

  -- the pairs with keys from low on and below high, in order
  abbrev pub between : List (ℕ × V) → ℕ → ℕ → List (ℕ × V)
  between es low high = filter (λ e. nat_le low e.0 && nat_lt e.0 high) es

  -- the keys ascend, the first is at least low and the last is below high
  abbrev pub Rises : ℕ → ℕ → List (ℕ × V) → Type 0
  Rises low high [] = Unit {0}
  Rises low high (e ∷ es) = (low ≤ e.0) × (e.0 < high) × Rises (e.0 + 1) high es

  -- a map whose keys are numbers of 64 bits
  abbrev pub IsMap : List (ℕ × V) → Type 0
  IsMap es = Rises 0 (2 ^ 64) es
