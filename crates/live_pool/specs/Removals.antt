-- THE PAIRS OF A RANGE of keys are removed one by one, keys ascending, while others write.
use Rattle.std.specs.Prelude.{◌≡◌, ◌⊎◌, ℕ, zero, suc, ◌+◌, true, [], ◌∷◌, length, Some, None}
use Rattle.spec_map.specs.Map.{Pairs}
use Rattle.live_nodes.specs.Known.{Known}
use Rattle.live_pool.specs.Pops.{HasPopped}

-- so many pairs with keys from `low` on and below `high` were popped, one after the other, each of the keys behind the one
-- before. `from` is behind the last one
abbrev pub HaveRemoved : ℕ → ℕ → ℕ → ℕ → Known → Known → Type 0
HaveRemoved low high zero from k n = (from ≡ low) × (n ≡ k)
HaveRemoved low high (suc count) from k n = (before : ℕ) × (p : ℕ × ℕ) × (m : Known) × (from ≡ p.0 + 1)
    × HaveRemoved low high count before k m × HasPopped true before high m (Some p) n

-- nothing is left behind `from`, or a pop of the keys there found none
abbrev pub IsDone : ℕ → ℕ → Known → Known → Type 0
IsDone from high m n = ((from ≡ high) × (n ≡ m)) ⊎ HasPopped true from high m None n

-- A RANGE WAS EMPTIED by a guard that knew k: so many pairs were popped, up to the last key of the range, or until a pop of the
-- keys behind found none
pub record HasEmptied (low high count : ℕ) (k n : Known) : Type 0 where
  pub from : ℕ
  pub middle : Known
  pub removed : HaveRemoved low high count from k middle
  pub rest : IsDone from high middle n

-- `step` is of a call that gets a pair: its state before, the pair, its state after.
module _ {F : Type 0} (step : F → ℕ × ℕ → F → Type 0) where
  -- These pairs, the last one first, were popped so, and each was handed on once it was.
  abbrev pub HaveTaken : ℕ → ℕ → Pairs ℕ → ℕ → F → Known → F → Known → Type 0
  HaveTaken low high [] from f k g n = (from ≡ low) × (g ≡ f) × (n ≡ k)
  HaveTaken low high (p ∷ ps) from f k g n = (before : ℕ) × (h : F) × (m : Known) × (from ≡ p.0 + 1)
      × HaveTaken low high ps before f k h m × HasPopped true before high m (Some p) n × step h p g

  -- THE SAME, and each pair was handed on
  pub record HasExtracted (low high count : ℕ) (f : F) (k : Known) (g : F) (n : Known) : Type 0 where
    pub taken : Pairs ℕ
    pub counted : count ≡ length taken
    pub from : ℕ
    pub middle : Known
    pub removed : HaveTaken low high taken from f k g middle
    pub rest : IsDone from high middle n
