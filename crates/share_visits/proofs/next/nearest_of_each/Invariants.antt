-- The shards so far were asked.
use Rattle.std.proofs.Common.{◌≡◌, ℕ, ◌<◌, length}
use Rattle.std.specs.Prelude.{None, slice_index_or}
use Rattle.share_parts.specs.Parts.{kept}
use Rattle.share_shards.specs.Held.{keys_at}
use Rattle.share_visits.specs.Near.{near_of}
use Rattle.share_visits.specs.Whole.{Contains, shard_of}
use Rattle.spec_map.specs.Map.{Pairs}
use Rattle.spec_map.specs.Near.{pair_near}
use Rattle.share_visits.proofs.next.nearest_of_each.Given as goal

abbrev pub invariant-loop-shard : goal.invariant-loop-shard
invariant-loop-shard g l =
    (l.seat.table_id ≡ l.initial.seat.table_id) × (l.seat.me ≡ l.initial.seat.me) × (length l.pairs ≡ 64)
    × ((all : Pairs ℕ) → Contains g.M.MapShard.pairs g.M.MapShard.limit l.lock all l.initial.seat.me.1
    → (i : ℕ) → i < l.shard → slice_index_or l.pairs i None ≡ pair_near (kept (keys_at (shard_of l.lock.table.slots) i) all) (near_of l.near))
