-- A visit of one shard, of those that a seat holds.
use Rattle.std.specs.Prelude.{◌≡◌, ◌≢◌, ℕ, List, Option}
use Rattle.share_parts.specs.Parts.{kept, Ascends}
use Rattle.share_shards.specs.Held.{keys_at}
use Rattle.share_shards.specs.Lock.{LockView}
use Rattle.share_visits.specs.Whole.{Contains, shard_of}
use Rattle.share_visits.specs.declared.part.Part.{Part}
use Rattle.spec_map.specs.Map.{Pairs}

-- the shard was visited, whose map has the pairs with its keys. The slots stay as they were where the visit leaves it so,
-- and else contain what has these pairs in this shard, and in the others what was there
pub record VisitedOne {M V E : Type 0} (pairs : M → Pairs ℕ) (limit_of : M → ℕ) (does : V → List E → ℕ → Part M → V → List E → Part M → Type 0) (lock : LockView) (shard : ℕ) (all : Pairs ℕ) (v : V) (before : List E) (w : V) (after : List E) (slots later : List (ℕ × Option (Part M))) : Type 0 where
  pub part : Part M
  pub value : Part M
  pub contains : kept (keys_at (shard_of lock.table.slots) shard) all ≡ pairs part.map
  pub limit : limit_of part.map ≡ lock.limit
  pub visited : does v before shard part w after value
  pub stays : value ≡ part → later ≡ slots
  pub leaves : (end : Pairs ℕ) → Ascends end → kept (keys_at (shard_of lock.table.slots) shard) end ≡ pairs value.map → limit_of value.map ≡ lock.limit → ((i : ℕ) → i ≢ shard → kept (keys_at (shard_of lock.table.slots) i) end ≡ kept (keys_at (shard_of lock.table.slots) i) all) → Contains pairs limit_of lock end later
