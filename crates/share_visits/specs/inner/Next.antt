-- The nearest pairs of all shards, in a table.
use Rattle.std.specs.Prelude.{◌≡◌, ℕ, ◌<◌, List, length, Option, None, slice_index_or}
use Rattle.share_parts.specs.Parts.{kept}
use Rattle.share_shards.specs.Held.{keys_at}
use Rattle.share_visits.specs.Whole.{shard_of}
use Rattle.spec_map.specs.Call.{Near}
use Rattle.spec_map.specs.Map.{Pairs}
use Rattle.spec_map.specs.Near.{pair_near}

-- each shard's place has the pair of that shard which is nearest there
pub record AreNearest (count : ℕ) (near : Near ℕ) (all : Pairs ℕ) (pairs : List (Option (ℕ × ℕ))) : Type 0 where
  pub many : length pairs ≡ 64
  pub each : (i : ℕ) → i < count → slice_index_or pairs i None ≡ pair_near (kept (keys_at (shard_of count) i) all) near
