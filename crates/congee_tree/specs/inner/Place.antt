-- Places of keys among ascending pairs.
use Rattle.std.specs.Prelude.{◌≡◌, ℕ, ◌<◌, ◌≤◌, length, slice_index_or}
use Rattle.spec_map.specs.Map.{Pairs}

-- the pair at this place has the key
pub record IsPairAt {P : Type 0} (m : Pairs P) (k at : ℕ) : Type 0 where
  pub in_range : at < length m
  pub has_key : (d : ℕ × P) → (slice_index_or m at d).0 ≡ k

-- the keys before this place are smaller, and those from it on are greater
pub record IsGapFor {P : Type 0} (m : Pairs P) (k at : ℕ) : Type 0 where
  pub in_range : at ≤ length m
  pub smaller_before : (j : ℕ) (d : ℕ × P) → j < at → (slice_index_or m j d).0 < k
  pub greater_after : (j : ℕ) (d : ℕ × P) → at ≤ j → j < length m → k < (slice_index_or m j d).0
