-- The calls on one key are determined by what its shard has.
use Rattle.std.proofs.Common.{ℕ, refl, eq-eqb}
use Rattle.std.specs.Prelude.{Option, Result, Ok, Err, IsTrue}
use Rattle.share_calls.specs.inner.Attempts.{computation, insertion}
use Rattle.share_parts.specs.Parts.{AreWithin}
use Rattle.share_shards.specs.Held.{keys_at}
use Rattle.share_visits.specs.Whole.{shard_of}

pub in_its_shard : (count key : ℕ) → IsTrue (keys_at (shard_of count) (shard_of count key) key)
in_its_shard count key = eq-eqb (shard_of count key) (shard_of count key) refl

pub insertion_within : {E : Type 0} (count key value : ℕ) (r : Result (Option ℕ) E) → AreWithin (keys_at (shard_of count) (shard_of count key)) (insertion key value r)
insertion_within count key value (Ok before) = (in_its_shard count key, tt)
insertion_within count key value (Err e) = tt

pub computation_within : {E : Type 0} (count key : ℕ) (value_of : Option ℕ → ℕ) (r : Result (Option ℕ) E) → AreWithin (keys_at (shard_of count) (shard_of count key)) (computation key value_of r)
computation_within count key value_of (Ok before) = (in_its_shard count key, tt)
computation_within count key value_of (Err e) = tt
