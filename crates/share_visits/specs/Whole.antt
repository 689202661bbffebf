-- A map in one shard or in 64, each of them a map of its own, where one seat holds them all.
use Rattle.std.specs.Prelude.{◌≡◌, ℕ, zero, suc, ◌/◌, ◌%◌, ◌⊎◌, List, [], ◌∷◌, Option, Some, reverse}
use Rattle.share_parts.specs.Parts.{kept, Ascends}
use Rattle.share_shards.specs.Held.{keys_at, numbers, slots_of}
use Rattle.share_shards.specs.Lock.{LockView}
use Rattle.share_shards.specs.inner.SeatView.{ShardSeat}
use Rattle.share_shards.specs.inner.Steps.{IsIdle, Took}
use Rattle.share_visits.specs.declared.part.Part.{Part}
use Rattle.spec_map.specs.Map.{Pairs, lookup}

-- the shard of a key, of so many: keys that differ in their last eight bits alone are of one shard
abbrev pub shard_of : ℕ → ℕ → ℕ
shard_of count key = (key / 256) % count

-- there is one shard, or there are 64
abbrev pub IsCount : ℕ → Type 0
IsCount count = (count ≡ 1) ⊎ (count ≡ 64)

-- the numbers below this one, descending
abbrev pub down : ℕ → List ℕ
down zero = []
down (suc n) = n ∷ down n

-- the slots are those of all shards, which contain these pairs. Each has the lock's limit
pub record Contains {M : Type 0} (pairs : M → Pairs ℕ) (limit_of : M → ℕ) (lock : LockView) (all : Pairs ℕ) (slots : List (ℕ × Option (Part M))) : Type 0 where
  pub held : List (ℕ × Part M)
  pub is : slots ≡ slots_of held
  pub numbered : numbers held ≡ down lock.table.slots
  pub ordered : Ascends all
  pub parts : (i : ℕ) (part : Part M) → lookup held i ≡ Some part → kept (keys_at (shard_of lock.table.slots) i) all ≡ pairs part.map
  pub limits : (i : ℕ) (part : Part M) → lookup held i ≡ Some part → limit_of part.map ≡ lock.limit

-- what the slot of a shard with this limit contains
abbrev pub part_content : {M : Type 0} → (M → Pairs ℕ) → (M → ℕ) → ℕ → Part M → Pairs ℕ → Type 0
part_content pairs limit_of limit part m = (m ≡ pairs part.map) × (limit_of part.map ≡ limit)

-- all shards were taken, by a seat that held none
pub record TookAll {M : Type 0} (pairs : M → Pairs ℕ) (limit_of : M → ℕ) (lock : LockView) (m n : ShardSeat ℕ (Part M)) : Type 0 where
  pub idle : IsIdle m
  pub shards : List ℕ
  pub all : reverse shards ≡ down lock.table.slots
  pub took : Took (part_content pairs limit_of lock.limit) (shard_of lock.table.slots) shards m n
