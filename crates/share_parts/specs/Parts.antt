-- The part of a map on some of its keys, the calls that these keys alone determine, and what a run of such calls on the
-- part is on the whole map.
use Rattle.std.specs.Prelude.{◌≡◌, ℕ, ◌<◌, ◌≤◌, Bool, List, [], ◌∷◌, filter, IsTrue, IsFalse}
use Rattle.spec_map.specs.Call.{Call, get, insert, remove, compare_exchange, compute_if_present, compute_or_insert, is_empty, keys, range, nearest, count, Operation}
use Rattle.spec_map.specs.Legal.{IsLegal}
use Rattle.spec_map.specs.Map.{Pairs, Rises}
use Rattle.spec_map.specs.Refusal.{never}

-- no key is in both
abbrev pub AreApart : (ℕ → Bool) → (ℕ → Bool) → Type 0
AreApart mine other = (k : ℕ) → IsTrue (mine k) → IsFalse (other k)

module _ {P : Type 0} where
  -- the pairs with these keys
  abbrev pub kept : (ℕ → Bool) → Pairs P → Pairs P
  kept mine m = filter (λ e. mine e.0) m

  -- the keys ascend
  abbrev pub Ascends : Pairs P → Type 0
  Ascends m = (high : ℕ) × Rises 0 high m

  -- what the call returns, and what it changes, is determined by what the map has at these keys
  abbrev pub IsWithin : (ℕ → Bool) → Call ℕ P → Type 0
  IsWithin mine (get k) = IsTrue (mine k)
  IsWithin mine (insert k v) = IsTrue (mine k)
  IsWithin mine (remove k) = IsTrue (mine k)
  IsWithin mine (compare_exchange k old new) = IsTrue (mine k)
  IsWithin mine (compute_if_present k) = IsTrue (mine k)
  IsWithin mine (compute_or_insert k) = IsTrue (mine k)
  IsWithin mine (range a b n) = (k : ℕ) → a ≤ k → k < b → IsTrue (mine k)
  IsWithin mine is_empty = (k : ℕ) → IsTrue (mine k)
  IsWithin mine keys = (k : ℕ) → IsTrue (mine k)
  IsWithin mine (nearest near) = (k : ℕ) → IsTrue (mine k)
  IsWithin mine count = (k : ℕ) → IsTrue (mine k)

  abbrev pub AreWithin : (ℕ → Bool) → List (Operation ℕ P P) → Type 0
  AreWithin mine [] = Unit {0}
  AreWithin mine (x ∷ xs) = IsWithin mine x.call × AreWithin mine xs

-- the operations are a legal run on the map m. Afterwards its part is d, and its other parts are as they were
pub record RunsOnWhole {P : Type 0} (same : P → P → Bool) (mine : ℕ → Bool) (m : Pairs P) (operations : List (Operation ℕ P P)) (d : Pairs P) : Type 0 where
  pub end : Pairs P
  pub legal : IsLegal same never m operations end
  pub ordered : Ascends end
  pub part : kept mine end ≡ d
  pub others : (other : ℕ → Bool) → AreApart mine other → kept other end ≡ kept other m
