-- The pairs that an attempt at a range has found.
use Rattle.std.specs.Prelude.{◌≡◌, ℕ, ◌≤◌, Bool, List, length, map, take}
use Rattle.share_holds.specs.Moments.{WereStored}
use Rattle.share_rule.specs.History.{Entry}
use Rattle.spec_map.specs.Map.{Pairs, Rises}

-- So many are in a buffer whose entries are made of a key and a value, and their keys are below the next. Each was
-- stored since what was seen
pub record AreFound {E : Type 0} (same : ℕ → ℕ → Bool) (seen : List (Entry ℕ)) (entry : ℕ → ℕ → E)
    (start end next count : ℕ) (buffer : List E) : Type 0 where
  pub pairs : Pairs ℕ
  pub inside : Rises start end pairs
  pub below : Rises start next pairs
  pub stored : WereStored same seen pairs
  pub order : start ≤ next
  pub many : count ≡ length pairs
  pub room : count ≤ length buffer
  pub written : take count buffer ≡ map (λ (pair : ℕ × ℕ). entry pair.0 pair.1) pairs
