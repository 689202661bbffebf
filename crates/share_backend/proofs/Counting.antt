-- How a legal call changes the number of pairs, by its reply.
use Rattle.std.proofs.Common.{◌≡◌, ℕ, ◌+◌, ◌≤◌, ◌^◌, Bool, true, false, if◌then◌else◌, length, Option, Some, None, IsSome, Result, Ok, Err, refl, sym, subst, ap, ◌∙◌, arith}
use Rattle.spec_map.specs.Call.{ClosureCall}
use Rattle.spec_map.specs.Legal.{IsClosureCalled, CallsIfPresent, CallsAlways, after, after_asking, after_exchange, computed_by, exchange}
use Rattle.spec_map.specs.Legal as legal
use Rattle.spec_map.specs.Map.{Pairs, IsMap, lookup, put, without}
use Rattle.spec_map.proofs.ByteMapLaws.{length-from_Rises, length-put_new, length-put_some, length-without_present}
use Rattle.spec_map.proofs.MapLaws.{without-absent}
use Rattle.spec_olc.specs.Calls.{map_call, map_reply, outline_of}
use Rattle.spec_olc.specs.Meaning.{in_some}
use Rattle.spec_olc.specs.Meaning as meaning
use Rattle.spec_olc.specs.declared.types.Op.{Op}
use Rattle.spec_olc.specs.declared.types.Op.TheVariants.{Get, Insert, Remove, ComputeIfPresent, ComputeOrInsert, CompareExchange, Range}
use Rattle.spec_olc.specs.declared.types.Reply.{Reply}
use Rattle.spec_olc.specs.declared.types.Reply.TheVariants.{Old, Computed, Exchanged}
use Rattle.share_backend.specs.Changing.{added, taken, if_absent, if_present, if_emptied, if_dropped, change_of, IsReplyTo}

module _ {M : Type 0} where
  some_there : (o o' : Option M) (v : M) → o ≡ o' → o ≡ Some v → IsSome o'
  some_there o o' v e is = subst (λ (x : Option M). IsSome x) e (subst (λ (x : Option M). IsSome x) (sym is) refl)

  module _ (m : Pairs M) (k : ℕ) (map : IsMap m) where
    by_put : (v : M) (before : Option M) → before ≡ lookup m k → length (put m k v) + taken (if_absent before) ≡ length m + added (if_absent before)
    by_put v None e = omega (arith, length-put_new 0 (2 ^ 64) m k v map (sym e))
    by_put v (Some b) e = omega (arith, length-put_some 0 (2 ^ 64) m k v map (some_there (Some b) (lookup m k) b e refl))

    by_without : (before : Option M) → before ≡ lookup m k → length (without m k) + taken (if_present before) ≡ length m + added (if_present before)
    by_without None e = ap (λ (x : Pairs M). length x + 0) (without-absent m k (sym e))
    by_without (Some b) e = omega (arith, length-without_present 0 (2 ^ 64) m k map (some_there (Some b) (lookup m k) b e refl))

    -- the change of a present key's value, to another value or to none
    by_answer : (old : M) (new : Option M) → lookup m k ≡ Some old → length (legal.after_asking m k (Some (Some old, new))) + taken (if_dropped (Some (old, new))) ≡ length m + added (if_dropped (Some (old, new)))
    by_answer old (Some new) e = omega (arith, length-put_some 0 (2 ^ 64) m k new map (some_there (lookup m k) (lookup m k) old refl e))
    by_answer old None e = omega (arith, length-without_present 0 (2 ^ 64) m k map (some_there (lookup m k) (lookup m k) old refl e))

    present : (both : Option (M × Option M)) (asked : ClosureCall M) (at_key : Option M) → lookup m k ≡ at_key → CallsIfPresent at_key asked → both ≡ computed_by asked
        → length (after_asking m k asked) + taken (if_dropped both) ≡ length m + added (if_dropped both)
    present both asked None e a r =
        subst (λ (x : ClosureCall M). length (after_asking m k x) + taken (if_dropped both) ≡ length m + added (if_dropped both)) (sym a)
        (subst (λ (x : Option (M × Option M)). length m + taken (if_dropped x) ≡ length m + added (if_dropped x)) (sym (r ∙ ap computed_by a)) refl)
    present both asked (Some old) e a r =
        subst (λ (x : ClosureCall M). length (after_asking m k x) + taken (if_dropped both) ≡ length m + added (if_dropped both)) (sym a.1)
        (subst (λ (x : Option (M × Option M)). length (after_asking m k (Some (Some old, a.0))) + taken (if_dropped x) ≡ length m + added (if_dropped x)) (sym (r ∙ ap computed_by a.1)) (by_answer old a.0 e))

    always : (before : Option M) (asked : ClosureCall M) → CallsAlways (lookup m k) asked → before ≡ lookup m k
        → length (after_asking m k asked) + taken (if_absent before) ≡ length m + added (if_absent before)
    always before asked a e =
        subst (λ (x : ClosureCall M). length (after_asking m k x) + taken (if_absent before) ≡ length m + added (if_absent before)) (sym a.1) (by_put a.0 before e)

    by_exchange : (old : M) (new : Option M) → lookup m k ≡ Some old → length (after_exchange m k (Ok new)) + taken (if_emptied (Ok new)) ≡ length m + added (if_emptied (Ok new))
    by_exchange old (Some new) e = omega (arith, length-put_some 0 (2 ^ 64) m k new map (some_there (lookup m k) (lookup m k) old refl e))
    by_exchange old None e = omega (arith, length-without_present 0 (2 ^ 64) m k map (some_there (lookup m k) (lookup m k) old refl e))

    exchanged_at : (same : M → M → Bool) (old : M) (new : Option M) (at_key : Option M) → lookup m k ≡ at_key
        → length (after_exchange m k (exchange same at_key old new)) + taken (if_emptied (exchange same at_key old new)) ≡ length m + added (if_emptied (exchange same at_key old new))
    exchanged_at same old new None e = refl
    exchanged_at same old new (Some s) e = by_test (same s old)
      where
        by_test : (b : Bool) → length (after_exchange m k (if b then Ok new else Err (Some s))) + taken (if_emptied (if b then Ok new else Err (Some s))) ≡ length m + added (if_emptied (if b then Ok new else Err (Some s)))
        by_test true = by_exchange s new e
        by_test false = refl

  old_is : (a b : Option M) → map_reply (Old a) ≡ map_reply (Old b) → a ≡ b
  old_is a b e = cc

  computed_is : (a b : Option (M × Option M)) → map_reply (Computed a) ≡ map_reply (Computed b) → a ≡ b
  computed_is a b e = cc

  exchanged_is : (a b : Result (Option M) (Option M)) → map_reply (Exchanged a) ≡ map_reply (Exchanged b) → a ≡ b
  exchanged_is a b e = cc

  module _ (same : M → M → Bool) (m : Pairs M) (asked : ClosureCall M) where
    abbrev Counts : Op M → Reply M → Type 0
    Counts op reply = length (after same m (map_call op) asked) + taken (change_of op reply) ≡ length m + added (change_of op reply)

    abbrev Replies : Op M → Reply M → Type 0
    Replies op reply = map_reply reply ≡ legal.reply_of same m (map_call op) asked

    pub counts : (op : Op M) (reply : Reply M) → IsMap m → IsClosureCalled m (map_call op) asked → Replies op reply → Counts op reply
    counts (Get k) (Old b) map a e = refl
    counts (Get k) (Computed b) map a e = refl
    counts (Get k) (Exchanged b) map a e = refl
    counts (Insert k v) (Old b) map a e = by_put m k map v b (old_is b (lookup m k) e)
    counts (Insert k v) (Computed b) map a e = absurd (cc)
    counts (Insert k v) (Exchanged b) map a e = absurd (cc)
    counts (Remove k) (Old b) map a e = by_without m k map b (old_is b (lookup m k) e)
    counts (Remove k) (Computed b) map a e = absurd (cc)
    counts (Remove k) (Exchanged b) map a e = absurd (cc)
    counts (ComputeIfPresent k) (Old b) map a e = absurd (cc)
    counts (ComputeIfPresent k) (Computed b) map a e = present m k map b asked (lookup m k) refl a (computed_is b (computed_by asked) e)
    counts (ComputeIfPresent k) (Exchanged b) map a e = absurd (cc)
    counts (ComputeOrInsert k v) (Old b) map a e = always m k map b asked a (old_is b (lookup m k) e)
    counts (ComputeOrInsert k v) (Computed b) map a e = absurd (cc)
    counts (ComputeOrInsert k v) (Exchanged b) map a e = absurd (cc)
    counts (CompareExchange k old new) (Old b) map a e = absurd (cc)
    counts (CompareExchange k old new) (Computed b) map a e = absurd (cc)
    counts (CompareExchange k old new) (Exchanged b) map a e =
        subst (λ (x : Result (Option M) (Option M)). length (after_exchange m k (exchange same (lookup m k) old new)) + taken (if_emptied x) ≡ length m + added (if_emptied x))
        (sym (exchanged_is b (exchange same (lookup m k) old new) e)) (exchanged_at m k map same old new (lookup m k) refl)
    counts (Range a' b' n) (Old b) map a e = refl
    counts (Range a' b' n) (Computed b) map a e = refl
    counts (Range a' b' n) (Exchanged b) map a e = refl

    pub replies : (op : Op M) (reply : Reply M) → Replies op reply → IsReplyTo op reply
    replies (Get k) (Old b) e = tt
    replies (Get k) (Computed b) e = absurd (cc)
    replies (Get k) (Exchanged b) e = absurd (cc)
    replies (Insert k v) (Old b) e = tt
    replies (Insert k v) (Computed b) e = absurd (cc)
    replies (Insert k v) (Exchanged b) e = absurd (cc)
    replies (Remove k) (Old b) e = tt
    replies (Remove k) (Computed b) e = absurd (cc)
    replies (Remove k) (Exchanged b) e = absurd (cc)
    replies (ComputeIfPresent k) (Old b) e = absurd (cc)
    replies (ComputeIfPresent k) (Computed b) e = tt
    replies (ComputeIfPresent k) (Exchanged b) e = absurd (cc)
    replies (ComputeOrInsert k v) (Old b) e = tt
    replies (ComputeOrInsert k v) (Computed b) e = absurd (cc)
    replies (ComputeOrInsert k v) (Exchanged b) e = absurd (cc)
    replies (CompareExchange k old new) (Old b) e = absurd (cc)
    replies (CompareExchange k old new) (Computed b) e = absurd (cc)
    replies (CompareExchange k old new) (Exchanged b) e = tt
    replies (Range a' b' n) (Old b) e = tt
    replies (Range a' b' n) (Computed b) e = absurd (cc)
    replies (Range a' b' n) (Exchanged b) e = absurd (cc)

-- a change depends on the call only by its kind and keys
module _ {Q P : Type 0} where
  pub by_outline : (op : Op Q) (reply : Reply P) → change_of op reply ≡ change_of (outline_of op) reply
  by_outline (Get k) (Old b) = refl
  by_outline (Get k) (Computed b) = refl
  by_outline (Get k) (Exchanged b) = refl
  by_outline (Insert k v) (Old b) = refl
  by_outline (Insert k v) (Computed b) = refl
  by_outline (Insert k v) (Exchanged b) = refl
  by_outline (Remove k) (Old b) = refl
  by_outline (Remove k) (Computed b) = refl
  by_outline (Remove k) (Exchanged b) = refl
  by_outline (ComputeIfPresent k) (Old b) = refl
  by_outline (ComputeIfPresent k) (Computed b) = refl
  by_outline (ComputeIfPresent k) (Exchanged b) = refl
  by_outline (ComputeOrInsert k v) (Old b) = refl
  by_outline (ComputeOrInsert k v) (Computed b) = refl
  by_outline (ComputeOrInsert k v) (Exchanged b) = refl
  by_outline (CompareExchange k old new) (Old b) = refl
  by_outline (CompareExchange k old new) (Computed b) = refl
  by_outline (CompareExchange k old new) (Exchanged b) = refl
  by_outline (Range a b' n) (Old b) = refl
  by_outline (Range a b' n) (Computed b) = refl
  by_outline (Range a b' n) (Exchanged b) = refl

  pub to_outline : (op : Op Q) (reply : Reply P) → IsReplyTo op reply → IsReplyTo (outline_of op) reply
  to_outline (Get k) reply h = h
  to_outline (Insert k v) reply h = h
  to_outline (Remove k) reply h = h
  to_outline (ComputeIfPresent k) reply h = h
  to_outline (ComputeOrInsert k v) reply h = h
  to_outline (CompareExchange k old new) reply h = h
  to_outline (Range a b n) reply h = h

  pub of_outline : (op : Op Q) (reply : Reply P) → IsReplyTo (outline_of op) reply → IsReplyTo op reply
  of_outline (Get k) reply h = h
  of_outline (Insert k v) reply h = h
  of_outline (Remove k) reply h = h
  of_outline (ComputeIfPresent k) reply h = h
  of_outline (ComputeOrInsert k v) reply h = h
  of_outline (CompareExchange k old new) reply h = h
  of_outline (Range a b n) reply h = h

-- and on the reply only by which values it contains, whatever they mean
module _ {P M : Type 0} (means : P → M) where
  absent_alike : (b : Option P) → if_absent (in_some means b) ≡ if_absent b
  absent_alike None = refl
  absent_alike (Some v) = refl

  present_alike : (b : Option P) → if_present (in_some means b) ≡ if_present b
  present_alike None = refl
  present_alike (Some v) = refl

  dropped_alike : (b : Option (P × Option P)) → if_dropped (in_some (meaning.both_of means) b) ≡ if_dropped b
  dropped_alike None = refl
  dropped_alike (Some (old, None)) = refl
  dropped_alike (Some (old, Some new)) = refl

  emptied_alike : (b : Result (Option P) (Option P)) → if_emptied (meaning.exchanged_of means b) ≡ if_emptied b
  emptied_alike (Ok None) = refl
  emptied_alike (Ok (Some new)) = refl
  emptied_alike (Err current) = refl

module _ {Q P M : Type 0} (means : P → M) where
  pub change_alike : (op : Op Q) (reply : Reply P) → change_of op (meaning.meant_reply means reply) ≡ change_of op reply
  change_alike (Get k) (Old b) = refl
  change_alike (Get k) (Computed b) = refl
  change_alike (Get k) (Exchanged b) = refl
  change_alike (Insert k v) (Old b) = absent_alike means b
  change_alike (Insert k v) (Computed b) = refl
  change_alike (Insert k v) (Exchanged b) = refl
  change_alike (Remove k) (Old b) = present_alike means b
  change_alike (Remove k) (Computed b) = refl
  change_alike (Remove k) (Exchanged b) = refl
  change_alike (ComputeIfPresent k) (Old b) = refl
  change_alike (ComputeIfPresent k) (Computed b) = dropped_alike means b
  change_alike (ComputeIfPresent k) (Exchanged b) = refl
  change_alike (ComputeOrInsert k v) (Old b) = absent_alike means b
  change_alike (ComputeOrInsert k v) (Computed b) = refl
  change_alike (ComputeOrInsert k v) (Exchanged b) = refl
  change_alike (CompareExchange k old new) (Old b) = refl
  change_alike (CompareExchange k old new) (Computed b) = refl
  change_alike (CompareExchange k old new) (Exchanged b) = emptied_alike means b
  change_alike (Range a b' n) (Old b) = refl
  change_alike (Range a b' n) (Computed b) = refl
  change_alike (Range a b' n) (Exchanged b) = refl

  pub reply_alike : (op : Op Q) (reply : Reply P) → IsReplyTo op (meaning.meant_reply means reply) → IsReplyTo op reply
  reply_alike (Get k) (Old b) h = h
  reply_alike (Get k) (Computed b) h = h
  reply_alike (Get k) (Exchanged b) h = h
  reply_alike (Insert k v) (Old b) h = h
  reply_alike (Insert k v) (Computed b) h = h
  reply_alike (Insert k v) (Exchanged b) h = h
  reply_alike (Remove k) (Old b) h = h
  reply_alike (Remove k) (Computed b) h = h
  reply_alike (Remove k) (Exchanged b) h = h
  reply_alike (ComputeIfPresent k) (Old b) h = h
  reply_alike (ComputeIfPresent k) (Computed b) h = h
  reply_alike (ComputeIfPresent k) (Exchanged b) h = h
  reply_alike (ComputeOrInsert k v) (Old b) h = h
  reply_alike (ComputeOrInsert k v) (Computed b) h = h
  reply_alike (ComputeOrInsert k v) (Exchanged b) h = h
  reply_alike (CompareExchange k old new) (Old b) h = h
  reply_alike (CompareExchange k old new) (Computed b) h = h
  reply_alike (CompareExchange k old new) (Exchanged b) h = h
  reply_alike (Range a b' n) (Old b) h = h
  reply_alike (Range a b' n) (Computed b) h = h
  reply_alike (Range a b' n) (Exchanged b) h = h

-- a map with keys of 64 bits has at most 2^64 pairs
pub few : {M : Type 0} (m : Pairs M) → IsMap m → length m ≤ 2 ^ 64
few m map = omega (arith, length-from_Rises 0 (2 ^ 64) m (omega arith) map)
