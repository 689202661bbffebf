-- What is done at each shard, in a visit of all.
use Rattle.std.specs.Prelude.{◌≡◌, ℕ, ◌+◌, ◌-◌, ◌<◌, ◌≤◌, ◌^◌, min, List, [], length}
use Rattle.share_parts.specs.Nearest.{nearer}
use Rattle.share_visits.specs.Near.{near_of}
use Rattle.share_visits.specs.Written.{AreWritten, listed}
use Rattle.share_visits.specs.declared.part.Part.{Part}
use Rattle.share_visits.specs.declared.visits.Charge.{Charge}
use Rattle.share_visits.specs.declared.visits.Clear.{Clear}
use Rattle.share_visits.specs.declared.visits.Find.{Find}
use Rattle.share_visits.specs.declared.visits.Page.{Page}
use Rattle.share_visits.specs.declared.visits.Remove.{Remove}
use Rattle.share_visits.specs.declared.visits.Tally.{Tally}
use Rattle.spec_map.specs.Map.{Pairs, between, without}
use Rattle.spec_map.specs.Near.{pair_near}

module _ {M E : Type 0} (pairs : M → Pairs ℕ) where
  -- the pairs are counted
  pub record Tallies (old : Tally) (before : List E) (shard : ℕ) (part : Part M) (new : Tally) (after : List E) (value : Part M) : Type 0 where
    pub stays : value ≡ part
    pub few : length (pairs part.map) ≤ 2 ^ 64
    pub counts : old.pairs + length (pairs part.map) < 2 ^ 128 → new.pairs ≡ old.pairs + length (pairs part.map)

  -- the nearer pair is kept
  pub record Finds (old : Find) (before : List E) (shard : ℕ) (part : Part M) (new : Find) (after : List E) (value : Part M) : Type 0 where
    pub stays : value ≡ part
    pub near : new.near ≡ old.near
    pub keeps : new.pair ≡ nearer (near_of old.near) old.pair (pair_near (pairs part.map) (near_of old.near))

  -- what is charged is added
  pub record Charges (charges : M → ℕ → Type 0) (limit_of : M → ℕ) (old : Charge) (before : List E) (shard : ℕ) (part : Part M) (new : Charge) (after : List E) (value : Part M) : Type 0 where
    pub stays : value ≡ part
    pub bytes : ℕ
    pub is : charges part.map bytes
    pub within : bytes ≤ limit_of part.map
    pub adds : new.bytes ≡ min (old.bytes + bytes) (2 ^ 128 - 1)

  -- the key is removed
  pub record Removes (limit_of : M → ℕ) (old : Remove) (before : List E) (shard : ℕ) (part : Part M) (new : Remove) (after : List E) (value : Part M) : Type 0 where
    pub key : new.key ≡ old.key
    pub left : pairs value.map ≡ without (pairs part.map) old.key
    pub limit : limit_of value.map ≡ limit_of part.map

  -- no pair is left
  pub record Clears (limit_of : M → ℕ) (old : Clear) (before : List E) (shard : ℕ) (part : Part M) (new : Clear) (after : List E) (value : Part M) : Type 0 where
    pub empty : pairs value.map ≡ []
    pub limit : limit_of value.map ≡ limit_of part.map

  -- pairs of the shard are listed
  pub record Lists (entry : ℕ → ℕ → E) (old : Page) (before : List E) (shard : ℕ) (part : Part M) (new : Page) (after : List E) (value : Part M) : Type 0 where
    pub stays : value ≡ part
    pub written : AreWritten entry (listed old.back (between (pairs part.map) old.start (old.last + 1))) before new.written after
