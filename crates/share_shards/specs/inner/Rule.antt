-- The rule of a lock of many shards: the word 8 * i and the slot i are those of the shard i. There is one history, which
-- leads to one map. Its part on a shard is what the shard's slot contains.
use Rattle.std.specs.Prelude.{◌≡◌, ◌≢◌, ℕ, ◌*◌, ◌<◌, ◌≤◌, Bool, List, [], length, slice_index, Option, Some}
use mathlib.Core.Option.{some}
use lib.ListN.{get_elem?}
use Rattle.atomic_table.specs.Table.{State}
use Rattle.share_parts.specs.Parts.{kept, Ascends}
use Rattle.share_rule.specs.History.{Entry, IsHistory, entries_of}
use Rattle.share_rule.specs.inner.Rule.{Owns, HasSeen}
use Rattle.share_shards.specs.Held.{keys_at, keys_of, numbers}
use Rattle.share_shards.specs.inner.SeatView.{ShardView, Blank, Caller, Paired}
use Rattle.spec_map.specs.Map.{Pairs, lookup}

module _ {S : Type 0} (count : ℕ) where
  -- the seat holds the shard i, whose value is x
  pub record IsHeld (holder : ℕ → ℕ) (value : ℕ → S) (words : List ℕ) (seat i : ℕ) (x : S) : Type 0 where
    pub is : x ≡ value i
    pub by : seat ≡ holder i
    pub taken : slice_index words (8 * i) ≢ 0
    pub within : i < count

module _ {T S : Type 0} (shard : ℕ → ℕ) (count : ℕ) where
  -- the view of a seat is true
  abbrev pub Fits : (ℕ → ℕ) → ℕ → List (Entry T) → Pairs T → (ℕ → ℕ) → (ℕ → S) → List ℕ → ℕ → ShardView T S → Type 0
  Fits owner next history whole holder value words seat Blank = Unit {0}
  Fits owner next history whole holder value words seat (Caller c seen pairs held) =
      Owns owner next seat c × HasSeen history c seen × (pairs ≡ kept (keys_of shard (numbers held)) whole)
      × ((i : ℕ) (x : S) → lookup held i ≡ Some x → IsHeld count holder value words seat i x)
  Fits owner next history whole holder value words seat (Paired c d a b) =
      Owns owner next seat c × Owns owner next seat d × (c ≢ d) × HasSeen history c a × HasSeen history d b

-- THE RULE: the history leads to the map, whose part on each shard is the content of the shard's value. This is at home
-- while the shard's word is 0, and is what the shard's holder knows otherwise
pub record ShardRule {T S : Type 0} (same : T → T → Bool) (content : S → Pairs T → Type 0) (shard : ℕ → ℕ) (count : ℕ) (s : State (Option S) (ShardView T S)) : Type 0 where
  pub history : List (Entry T)
  pub whole : Pairs T
  pub owner : ℕ → ℕ
  pub next : ℕ
  pub holder : ℕ → ℕ
  pub value : ℕ → S
  pub wide : 8 * count ≤ length s.words
  pub many : length s.homes ≡ count
  pub run : IsHistory same history whole
  pub ordered : Ascends whole
  pub parts : (i : ℕ) → content (value i) (kept (keys_at shard i) whole)
  pub home : (i : ℕ) → i < count → slice_index s.words (8 * i) ≡ 0 → get_elem? s.homes i ≡ some (some (Some (value i)))
  pub each_seat : (j : ℕ) (v : ShardView T S) → get_elem? s.views j ≡ some v
      → Fits shard count owner next history whole holder value s.words j v
  pub unborn : (c : ℕ) → next ≤ c → entries_of c history ≡ []

-- the rule of a table: there are as many shards as slots
abbrev pub TableRule : {T S : Type 0} → (T → T → Bool) → (S → Pairs T → Type 0) → (ℕ → ℕ → ℕ) → State (Option S) (ShardView T S) → Type 0
TableRule same content shard s = ShardRule same content (shard (length s.homes)) (length s.homes) s
