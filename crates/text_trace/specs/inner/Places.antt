-- Places of keys among pairs, as one pass over them finds them.
use Rattle.std.specs.Prelude.{◌≡◌, ◌≢◌, ℕ, ◌<◌, ◌≤◌, length, slice_index_or}
use Rattle.spec_map.specs.Map.{Pairs}

-- the keys before this place are smaller, and the one here isn't
pub record IsPlaceFor (m : Pairs ℕ) (k at : ℕ) : Type 0 where
  pub within : at ≤ length m
  pub before : (j : ℕ) (d : ℕ × ℕ) → j < at → (slice_index_or m j d).0 < k
  pub here : (d : ℕ × ℕ) → at < length m → k ≤ (slice_index_or m at d).0

-- the key is at this place, and at none before it
pub record IsFirstAt (m : Pairs ℕ) (k at : ℕ) : Type 0 where
  pub within : at < length m
  pub before : (j : ℕ) (d : ℕ × ℕ) → j < at → (slice_index_or m j d).0 ≢ k
  pub here : (d : ℕ × ℕ) → (slice_index_or m at d).0 ≡ k

-- the key is at no place
abbrev pub IsNowhere : Pairs ℕ → ℕ → Type 0
IsNowhere m k = (j : ℕ) (d : ℕ × ℕ) → j < length m → (slice_index_or m j d).0 ≢ k
