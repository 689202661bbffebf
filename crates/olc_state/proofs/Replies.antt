-- WHAT A CALL STORES AND REPLIES is what the map's call stores and replies, by the current value of its key.
use Rattle.std.proofs.Common.{◌≡◌, ℕ, Bool, Option, Some, None, refl, sym, ap, ◌∙◌, subst}
use Rattle.std.proofs.lemmas.Bool.{eq-eqb}
use Rattle.spec_map.specs.Call.{old_value}
use Rattle.spec_map.specs.Legal.{CallsAlways, CallsIfPresent, IsClosureCalled, reply_of, after}
use Rattle.spec_map.specs.Map.{Pairs, lookup, without, with_answer}
use Rattle.spec_olc.specs.Calls.{IsPoint, Outline, key_of, outline_of, map_call, map_reply, map_asked, asked_of, or_else, stored}
use Rattle.spec_olc.specs.Local.{only_at}
use Rattle.spec_olc.specs.Meaning.{both_of, in_some, meant_reply as meant_reply}
use Rattle.spec_olc.specs.declared.types.Asking.{Asking}
use Rattle.spec_olc.specs.declared.types.Asking.TheVariants.{Fresh, Wants, Given}
use Rattle.spec_olc.specs.declared.types.Op.{Op}
use Rattle.spec_olc.specs.declared.types.Op.TheVariants.{Get, Insert, Remove, ComputeIfPresent, ComputeOrInsert, CompareExchange, Range}
use Rattle.spec_olc.specs.declared.types.Reply.{Reply}
use Rattle.spec_olc.specs.declared.types.Reply.TheVariants.{Computed}
use Rattle.olc_state.specs.inner.Effects.{IsChange, IsLeft, IsReturned, both_in, reply_with, returned_at}

module _ {M : Type 0} where
  -- a call's key is its outline's
  key_outline : (op : Op M) → key_of op ≡ key_of (outline_of op)
  key_outline (Range a b n) = refl
  key_outline op = refl

  pub key_is : (op : Op M) (o : Outline) → outline_of op ≡ o → key_of op ≡ key_of o
  key_is op o e = key_outline op ∙ ap (λ (z : Outline). key_of z) e

  -- the map that has at most this key
  pub alone_there : (key : ℕ) (v : Option M) → lookup (only_at key v) key ≡ v
  alone_there key None = refl
  alone_there key (Some v) = rw (eq-eqb key key refl) refl

  -- a call that goes back to the root keeps its share
  pub returned_fresh : (op : Op M) (asking : Asking M) (returns : Option M) → IsReturned op asking returns → IsReturned op Fresh returns
  returned_fresh (CompareExchange k old new) Fresh returns h = h
  returned_fresh (CompareExchange k old new) (Wants was) returns h = h
  returned_fresh (CompareExchange k old new) (Given was answer) returns h = h
  returned_fresh op asking returns h = tt

  -- and so does one that waits for its closure
  pub returned_wants : (op : Op M) (asking : Asking M) (was : Option M) (returns : Option M) → IsReturned op asking returns → IsReturned op (Wants was) returns
  returned_wants (CompareExchange k old new) Fresh was returns h = h
  returned_wants (CompareExchange k old new) (Wants is) was returns h = h
  returned_wants (CompareExchange k old new) (Given is answer) was returns h = h
  returned_wants op asking was returns h = tt

  -- the share of a call that starts
  pub returned_first : (op : Op M) → IsReturned op Fresh (returned_at op)
  returned_first (CompareExchange k old new) = refl
  returned_first op = tt

-- WHAT A REPLY MEANS is the reply by what its payloads mean
module _ {P M : Type 0} (meaning : P → M) where
  both_meant : (before returns : Option P) → in_some (both_of meaning) (both_in before returns) ≡ both_in (in_some meaning before) (in_some meaning returns)
  both_meant None returns = refl
  both_meant (Some v) returns = refl

  pub reply_meant : (outline : Outline) (before returns : Option P) → meant_reply meaning (reply_with outline before returns) ≡ reply_with outline (in_some meaning before) (in_some meaning returns)
  reply_meant (ComputeIfPresent k) before returns = ap (λ z. let r : Reply M = Computed z in r) (both_meant before returns)
  reply_meant outline before returns = refl

-- `same` compares two payloads.
module _ {M : Type 0} (same : M → M → Bool) where
  -- calls that change something or leave all are point calls
  pub change_point : (op : Op M) (asking : Asking M) (at_key value : Option M) → IsChange same op asking at_key value → IsPoint op
  change_point (Range a b n) asking at_key value h = absurd h
  change_point op asking at_key value h = tt

  pub left_point : (op : Op M) (at_key : Option M) (reply : Reply M) → IsLeft same op at_key reply → IsPoint op
  left_point (Range a b n) at_key reply h = absurd h
  left_point op at_key reply h = tt

  -- A CHANGE
  pub change_stored : (op : Op M) (asking : Asking M) (at_key value : Option M) → IsChange same op asking at_key value → stored (Some op) asking ≡ value
  change_stored (Insert k v) asking at_key value h = sym h.1
  change_stored (Remove k) asking (Some old) value h = rw h.0 (sym h.1)
  change_stored (ComputeIfPresent k) asking (Some old) value h = rw h refl
  change_stored (ComputeOrInsert k v) asking at_key value h = rw h.1 (sym h.2)
  change_stored (CompareExchange k old new) asking (Some current) value h = sym h.2
  change_stored op asking at_key value h = absurd h

  one_answer : (old : M) (value : Option M) → CallsIfPresent (Some old) (Some (Some old, value))
  one_answer old value = (value, refl)

  an_answer : (v : M) (at_key answer : Option M) → CallsAlways at_key (Some (at_key, or_else answer v))
  an_answer v at_key None = (v, refl)
  an_answer v at_key (Some answer) = (answer, refl)

  pub change_asked : (m : Pairs M) (op : Op M) (asking : Asking M) (at_key value : Option M) → IsChange same op asking at_key value → lookup m (key_of op) ≡ at_key
      → IsClosureCalled m (map_call op) (map_asked op (asked_of asking))
  change_asked m (Insert k v) asking at_key value h there = rw h.0 refl
  change_asked m (Remove k) asking (Some old) value h there = rw h.0 refl
  change_asked m (ComputeIfPresent k) asking (Some old) value h there = rw (there, h) (one_answer old value)
  change_asked m (ComputeOrInsert k v) asking at_key value h there = rw (there, h.1) (an_answer v at_key h.0)
  change_asked m (CompareExchange k old new) asking (Some current) value h there = rw h.0 refl
  change_asked m op asking at_key value h there = absurd h

  pub change_replied : (m : Pairs M) (op : Op M) (asking : Asking M) (at_key value returns : Option M) → IsChange same op asking at_key value → IsReturned op asking returns → lookup m (key_of op) ≡ at_key
      → map_reply (reply_with (outline_of op) at_key returns) ≡ reply_of same m (map_call op) (map_asked op (asked_of asking))
  change_replied m (Insert k v) asking at_key value returns h r there = ap old_value (sym there)
  change_replied m (Remove k) asking (Some old) value returns h r there = ap old_value (sym there)
  change_replied m (ComputeIfPresent k) asking (Some old) value returns h r there =
      let told : returns ≡ value = subst (λ (z : Asking M). let x : Op M = ComputeIfPresent k in IsReturned x z returns) h r in
      rw (h, told) refl
  change_replied m (ComputeOrInsert k v) asking at_key value returns h r there = ap old_value (sym there)
  change_replied m (CompareExchange k old new) asking (Some current) value returns h r there =
      let told : returns ≡ new = subst (λ (z : Asking M). let x : Op M = CompareExchange k old new in IsReturned x z returns) h.0 r in
      rw (there, h.1, told) refl
  change_replied m op asking at_key value returns h r there = absurd h

  pub change_after : (m : Pairs M) (op : Op M) (asking : Asking M) (at_key value : Option M) → IsChange same op asking at_key value → lookup m (key_of op) ≡ at_key
      → after same m (map_call op) (map_asked op (asked_of asking)) ≡ with_answer m (key_of op) value
  change_after m (Insert k v) asking at_key value h there = rw h.1 refl
  change_after m (Remove k) asking (Some old) value h there = rw h.1 refl
  change_after m (ComputeIfPresent k) asking (Some old) value h there = rw h refl
  change_after m (ComputeOrInsert k v) asking at_key value h there = rw (h.1, h.2) refl
  change_after m (CompareExchange k old new) asking (Some current) value h there = rw (there, h.1, h.2) refl
  change_after m op asking at_key value h there = absurd h

  -- if the key is absent a value is stored
  pub change_enters : (op : Op M) (asking : Asking M) (value : Option M) → IsChange same op asking None value → (v : M) × (value ≡ Some v)
  change_enters (Insert k v) asking value h = (v, h.1)
  change_enters (ComputeOrInsert k v) asking value h = entered h.0 h.2
    where
      entered : (answer : Option M) → value ≡ or_else answer v → (w : M) × (value ≡ Some w)
      entered None e = (v, e)
      entered (Some answer) e = (answer, e)
  change_enters op asking value h = absurd h

  -- A CALL THAT CHANGES NOTHING
  pub left_asked : (m : Pairs M) (op : Op M) (asking : Asking M) (at_key : Option M) (reply : Reply M) → asking ≡ Fresh → IsLeft same op at_key reply → lookup m (key_of op) ≡ at_key
      → IsClosureCalled m (map_call op) (map_asked op (asked_of asking))
  left_asked m (Get k) asking at_key reply fresh h there = rw fresh refl
  left_asked m (Remove k) asking None reply fresh h there = rw fresh refl
  left_asked m (ComputeIfPresent k) asking None reply fresh h there = rw (fresh, there) refl
  left_asked m (CompareExchange k old new) asking None reply fresh h there = rw fresh refl
  left_asked m (CompareExchange k old new) asking (Some current) reply fresh h there = rw fresh refl
  left_asked m op asking at_key reply fresh h there = absurd h

  pub left_replied : (m : Pairs M) (op : Op M) (asking : Asking M) (at_key : Option M) (reply : Reply M) → asking ≡ Fresh → IsLeft same op at_key reply → lookup m (key_of op) ≡ at_key
      → map_reply reply ≡ reply_of same m (map_call op) (map_asked op (asked_of asking))
  left_replied m (Get k) asking at_key reply fresh h there = rw (h, there) refl
  left_replied m (Remove k) asking None reply fresh h there = rw (h, there) refl
  left_replied m (ComputeIfPresent k) asking None reply fresh h there = rw (h, fresh) refl
  left_replied m (CompareExchange k old new) asking None reply fresh h there = rw (h, there) refl
  left_replied m (CompareExchange k old new) asking (Some current) reply fresh h there = rw (h.1, there, h.0) refl
  left_replied m op asking at_key reply fresh h there = absurd h

  pub left_after : (m : Pairs M) (op : Op M) (asking : Asking M) (at_key : Option M) (reply : Reply M) → asking ≡ Fresh → IsLeft same op at_key reply → lookup m (key_of op) ≡ at_key
      → ((k : ℕ) → lookup m k ≡ None → without m k ≡ m)
      → after same m (map_call op) (map_asked op (asked_of asking)) ≡ m
  left_after m (Get k) asking at_key reply fresh h there gone = refl
  left_after m (Remove k) asking None reply fresh h there gone = gone k there
  left_after m (ComputeIfPresent k) asking None reply fresh h there gone = rw fresh refl
  left_after m (CompareExchange k old new) asking None reply fresh h there gone = rw there refl
  left_after m (CompareExchange k old new) asking (Some current) reply fresh h there gone = rw (there, h.0) refl
  left_after m op asking at_key reply fresh h there gone = absurd h
