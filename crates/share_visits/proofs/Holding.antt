-- A hold of all shards, from its start to its end.
use Rattle.std.proofs.Common.{◌≡◌, ℕ, Bool, List, [], ◌∷◌, sym, ap, ◌∙◌}
use Rattle.std.specs.Prelude.{IsTrue, ◌==◌}
use Rattle.share_parts.specs.Parts.{AreWithin, IsWithin}
use Rattle.share_rule.specs.inner.Hold.{StepsBy}
use Rattle.share_shards.specs.Held.{keys_of, numbers, values_of}
use Rattle.share_shards.specs.Lock.{LockView}
use Rattle.share_shards.specs.inner.SeatView.{ShardSeat, ShardView}
use Rattle.share_shards.specs.inner.Steps.{HeldBy, MayAppend, caller_of, held_of, pairs_of, seen_of}
use Rattle.share_shards.proofs.Holding.{held_from}
use Rattle.share_shards.proofs.Whole.{may_all, took_all}
use Rattle.share_visits.specs.Whole.{Contains, IsCount, TookAll, down, part_content, shard_of}
use Rattle.share_visits.specs.declared.part.Part.{Part}
use Rattle.share_visits.proofs.Numbers.{all_keys}
use Rattle.spec_map.specs.Call.{Call, get, insert, remove, compare_exchange, compute_if_present, compute_or_insert, is_empty, keys, range, nearest, count as counting, Operation}
use Rattle.spec_map.specs.Map.{Pairs}

-- all keys determine each call
call_within : (mine : ℕ → Bool) → ((k : ℕ) → IsTrue (mine k)) → (call : Call ℕ ℕ) → IsWithin mine call
call_within mine all (get k) = all k
call_within mine all (insert k v) = all k
call_within mine all (remove k) = all k
call_within mine all (compare_exchange k old new) = all k
call_within mine all (compute_if_present k) = all k
call_within mine all (compute_or_insert k) = all k
call_within mine all is_empty = all
call_within mine all keys = all
call_within mine all (range a b n) = λ k from to. all k
call_within mine all (nearest near) = all
call_within mine all counting = all

all_within : (mine : ℕ → Bool) → ((k : ℕ) → IsTrue (mine k)) → (operations : List (Operation ℕ ℕ ℕ)) → AreWithin mine operations
all_within mine all [] = tt
all_within mine all (x ∷ xs) = (call_within mine all x.call, all_within mine all xs)

module _ {M : Type 0} (pairs : M → Pairs ℕ) (limit_of : M → ℕ) (lock : LockView) (some : IsCount lock.table.slots) (m n : ShardSeat ℕ (Part M)) (took : TookAll pairs limit_of lock m n) where
  abbrev count : ℕ
  count = lock.table.slots

  abbrev content : Part M → Pairs ℕ → Type 0
  content = part_content pairs limit_of lock.limit

  abbrev same : ℕ → ℕ → Bool
  same a b = a == b

  pub numbers_taken : numbers (held_of n.0) ≡ down count
  numbers_taken = took_all content (shard_of count) took.shards m n took.idle took.took ∙ took.all

  -- what was found
  pub contains_taken : Contains pairs limit_of lock (pairs_of n.0) n.1
  contains_taken = record {
    held = held_of n.0;
    is = ap (λ (z : ShardSeat ℕ (Part M)). z.1) took.took.holds.is;
    numbered = numbers_taken;
    ordered = took.took.holds.contain.ordered;
    parts = λ i part e. (took.took.holds.contain.parts i part e).0;
    limits = λ i part e. (took.took.holds.contain.parts i part e).1;
  }

  -- what may be appended
  pub may_end : (operations : List (Operation ℕ ℕ ℕ)) (p : ShardSeat ℕ (Part M)) (end : Pairs ℕ) → p.0 ≡ n.0 → Contains pairs limit_of lock end p.1 → StepsBy same operations (pairs_of n.0) end
      → MayAppend same content (shard_of count) operations p (held_of p.0) (values_of p.1)
  may_end operations p end view c goes =
      may_all content (shard_of count) took.shards m n took.idle took.took same operations p c.held end view c.is (c.numbered ∙ sym numbers_taken)
      (all_within (keys_of (shard_of count) (numbers (held_of n.0))) (λ k. ap (λ (l : List ℕ). keys_of (shard_of count) l k) numbers_taken ∙ all_keys count some k) operations)
      goes (λ i part e. (c.parts i part e, c.limits i part e))

  -- what is known then
  pub held_end : (operations : List (Operation ℕ ℕ ℕ)) (p q : ShardSeat ℕ (Part M)) → p.0 ≡ n.0 → HeldBy same operations p q → HeldBy same operations m q
  held_end operations p q view held =
      held_from same content (shard_of count) operations m p q (ap (λ (z : ShardView ℕ (Part M)). caller_of z) view ∙ took.took.caller) (ap (λ (z : ShardView ℕ (Part M)). seen_of z) view ∙ took.took.seen) held
