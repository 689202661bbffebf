-- The calls on one key: they need only the value there, and keep the order of the keys.
use Rattle.std.proofs.Common.{◌≡◌, ◌≢◌, ℕ, ◌+◌, Bool, Option, Some, None, sym, ap, subst, ◌∙◌, arith}
use Rattle.std.specs.Prelude.{Result, Ok, Err}
use Rattle.spec_map.specs.Map.{Pairs, lookup, put, with_answer}
use Rattle.spec_map.specs.Call.{Call, get, insert, remove, compare_exchange, compute_if_present, compute_or_insert, is_empty, keys, range, nearest, count, ClosureCall, Answer, replied, refused, old_value, exchanged}
use Rattle.spec_map.specs.Legal.{MayAnswer, CallsIfPresent, CallsAlways, exchange, after_exchange, after_asking, after_answer}
use Rattle.spec_map.specs.Refusal.{never}
use Rattle.spec_map.proofs.MapLaws.{lookup-put_other, lookup-put_same, lookup-without_other, lookup-without_same, Rises-wider, Rises-put, Rises-without}
use Rattle.share_parts.specs.Parts.{Ascends}

module _ {P : Type 0} where
  -- the key of a call on one key, and 0
  abbrev pub key_of : Call ℕ P → ℕ
  key_of (get k) = k
  key_of (insert k v) = k
  key_of (remove k) = k
  key_of (compare_exchange k old new) = k
  key_of (compute_if_present k) = k
  key_of (compute_or_insert k) = k
  key_of call = 0

  -- the call is on one key
  abbrev pub IsOnKey : Call ℕ P → Type 0
  IsOnKey (get k) = Unit {0}
  IsOnKey (insert k v) = Unit {0}
  IsOnKey (remove k) = Unit {0}
  IsOnKey (compare_exchange k old new) = Unit {0}
  IsOnKey (compute_if_present k) = Unit {0}
  IsOnKey (compute_or_insert k) = Unit {0}
  IsOnKey call = ⊥

module _ {P : Type 0} (same : P → P → Bool) where
  ascends_put : (m : Pairs P) (k : ℕ) (v : P) → Ascends m → Ascends (put m k v)
  ascends_put m k v h = (h.0 + (k + 1), Rises-put 0 (h.0 + (k + 1)) m k v (Rises-wider 0 h.0 0 (h.0 + (k + 1)) m (omega arith) (omega arith) h.1) (omega arith) (omega arith))

  pub ascends_answer : (m : Pairs P) (k : ℕ) (new : Option P) → Ascends m → Ascends (with_answer m k new)
  ascends_answer m k None h = (h.0, Rises-without 0 h.0 m k h.1)
  ascends_answer m k (Some v) h = ascends_put m k v h

  ascends_exchange : (m : Pairs P) (k : ℕ) (r : Result (Option P) (Option P)) → Ascends m → Ascends (after_exchange m k r)
  ascends_exchange m k (Ok new) h = ascends_answer m k new h
  ascends_exchange m k (Err current) h = h

  ascends_asking : (m : Pairs P) (k : ℕ) (asked : ClosureCall P) → Ascends m → Ascends (after_asking m k asked)
  ascends_asking m k None h = h
  ascends_asking m k (Some (old, new)) h = ascends_answer m k new h

  -- the operation was allowed, and of a kind that is on one key
  pub ascends_after : (m : Pairs P) (call : Call ℕ P) (asked : ClosureCall P) (answer : Answer ℕ P P) → IsOnKey call → Ascends m → Ascends (after_answer same m call asked answer)
  ascends_after m (get k) asked (replied reply) on h = h
  ascends_after m (insert k v) asked (replied reply) on h = ascends_put m k v h
  ascends_after m (remove k) asked (replied reply) on h = (h.0, Rises-without 0 h.0 m k h.1)
  ascends_after m (compare_exchange k old new) asked (replied reply) on h = ascends_exchange m k (exchange same (lookup m k) old new) h
  ascends_after m (compute_if_present k) asked (replied reply) on h = ascends_asking m k asked h
  ascends_after m (compute_or_insert k) asked (replied reply) on h = ascends_asking m k asked h
  ascends_after m is_empty asked (replied reply) on h = absurd on
  ascends_after m keys asked (replied reply) on h = absurd on
  ascends_after m (range a b n) asked (replied reply) on h = absurd on
  ascends_after m (nearest near) asked (replied reply) on h = absurd on
  ascends_after m count asked (replied reply) on h = absurd on
  ascends_after m call asked refused on h = h

  -- two maps with the same value at the call's key allow the same, and agree at the key afterwards
  module _ (m w : Pairs P) where
    pub allows_same : (call : Call ℕ P) (asked : ClosureCall P) (answer : Answer ℕ P P) → IsOnKey call → lookup m (key_of call) ≡ lookup w (key_of call) → MayAnswer same never w call asked answer → MayAnswer same never m call asked answer
    allows_same (get k) asked (replied reply) on e a = (a.0, a.1 ∙ ap (λ (o : Option P). old_value o) (sym e))
    allows_same (insert k v) asked (replied reply) on e a = (a.0, a.1 ∙ ap (λ (o : Option P). old_value o) (sym e))
    allows_same (remove k) asked (replied reply) on e a = (a.0, a.1 ∙ ap (λ (o : Option P). old_value o) (sym e))
    allows_same (compare_exchange k old new) asked (replied reply) on e a = (a.0, a.1 ∙ ap (λ (o : Option P). exchanged (exchange same o old new)) (sym e))
    allows_same (compute_if_present k) asked (replied reply) on e a = (subst (λ (o : Option P). CallsIfPresent o asked) (sym e) a.0, a.1)
    allows_same (compute_or_insert k) asked (replied reply) on e a = (subst (λ (o : Option P). CallsAlways o asked) (sym e) a.0, a.1 ∙ ap (λ (o : Option P). old_value o) (sym e))
    allows_same is_empty asked (replied reply) on e a = absurd on
    allows_same keys asked (replied reply) on e a = absurd on
    allows_same (range a b n) asked (replied reply) on e k = absurd on
    allows_same (nearest near) asked (replied reply) on e a = absurd on
    allows_same count asked (replied reply) on e a = absurd on
    allows_same call asked refused on e a = a

    pub answer_at : (k : ℕ) (new : Option P) → Ascends m → Ascends w → lookup (with_answer m k new) k ≡ lookup (with_answer w k new) k
    answer_at k None h g = lookup-without_same 0 h.0 m k h.1 ∙ sym (lookup-without_same 0 g.0 w k g.1)
    answer_at k (Some v) h g = lookup-put_same m k v ∙ sym (lookup-put_same w k v)

  pub other_answer : (m : Pairs P) (k : ℕ) (new : Option P) (j : ℕ) → j ≢ k → lookup (with_answer m k new) j ≡ lookup m j
  other_answer m k None j ne = lookup-without_other m k j ne
  other_answer m k (Some v) j ne = lookup-put_other m k v j ne
