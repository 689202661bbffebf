-- The calls of a caller that owns keys alone, as those of a map of its own.
use Rattle.std.proofs.Common.{◌≡◌, ◌≢◌, ℕ, ◌+◌, ◌<◌, ◌≤◌, Bool, cond, List, [], ◌∷◌, Option, Some, None, Result, Ok, Err, refl, sym, ap, subst, ◌∙◌, inl, inr, arith, ◌⊎◌}
use Rattle.std.proofs.lemmas.Bool.{cases_eq, cases_lt, eq-eqb, ne_eqb}
use Rattle.spec_map.specs.Map.{Pairs, lookup, put, without, with_answer, between, Rises}
use Rattle.spec_map.specs.Call.{Call, get, insert, remove, compare_exchange, compute_if_present, compute_or_insert, is_empty, keys, range, nearest, count, ClosureCall, Answer, replied, refused, old_value, exchanged}
use Rattle.spec_map.specs.Legal.{IsLegal, MayAnswer, IsClosureCalled, CallsAlways, CallsIfPresent, after_operation, after_answer, after, after_asking, after_exchange, exchange, reply_of}
use Rattle.spec_map.specs.Refusal.{never}
use Rattle.spec_map.proofs.MapLaws.{lookup-put_other, lookup-put_same, lookup-without_other, lookup-without_same, lookup-between_inside, lookup-between_outside, Rises-wider, Rises-put, Rises-without, Rises-between, same_from_lookups}
use Rattle.share_rule.specs.History.{Entry, operations_of, entries_of}
use Rattle.share_laws.specs.Keys.{Leaves, IsWithin, OwnsKeys}
use Rattle.share_laws.proofs.Untouched.{answer_leaves}

-- keys that ascend, below some number
abbrev pub Ascends : {P : Type 0} → Pairs P → Type 0
Ascends m = (high : ℕ) × Rises 0 high m

module _ {P : Type 0} where
  ascends_put : (m : Pairs P) (k : ℕ) (v : P) → Ascends m → Ascends (put m k v)
  ascends_put m k v h = (h.0 + (k + 1), Rises-put 0 (h.0 + (k + 1)) m k v (Rises-wider 0 h.0 0 (h.0 + (k + 1)) m (omega arith) (omega arith) h.1) (omega arith) (omega arith))

  ascends_without : (m : Pairs P) (k : ℕ) → Ascends m → Ascends (without m k)
  ascends_without m k h = (h.0, Rises-without 0 h.0 m k h.1)

  ascends_with : (m : Pairs P) (k : ℕ) (new : Option P) → Ascends m → Ascends (with_answer m k new)
  ascends_with m k None h = ascends_without m k h
  ascends_with m k (Some v) h = ascends_put m k v h

  ascends_asking : (m : Pairs P) (k : ℕ) (asked : ClosureCall P) → Ascends m → Ascends (after_asking m k asked)
  ascends_asking m k None h = h
  ascends_asking m k (Some (old, new)) h = ascends_with m k new h

  ascends_exchange : (m : Pairs P) (k : ℕ) (e : Result (Option P) (Option P)) → Ascends m → Ascends (after_exchange m k e)
  ascends_exchange m k (Ok new) h = ascends_with m k new h
  ascends_exchange m k (Err current) h = h

  module _ (same : P → P → Bool) where
    ascends_after : (m : Pairs P) (call : Call ℕ P) (asked : ClosureCall P) → Ascends m → Ascends (after same m call asked)
    ascends_after m (get k) asked h = h
    ascends_after m (insert k v) asked h = ascends_put m k v h
    ascends_after m (remove k) asked h = ascends_without m k h
    ascends_after m (compare_exchange k old new) asked h = ascends_exchange m k (exchange same (lookup m k) old new) h
    ascends_after m (compute_if_present k) asked h = ascends_asking m k asked h
    ascends_after m (compute_or_insert k) asked h = ascends_asking m k asked h
    ascends_after m is_empty asked h = h
    ascends_after m keys asked h = h
    ascends_after m (range a b n) asked h = h
    ascends_after m (nearest near) asked h = h
    ascends_after m count asked h = h

    ascends_answer : (m : Pairs P) (call : Call ℕ P) (asked : ClosureCall P) (answer : Answer ℕ P P) → Ascends m → Ascends (after_answer same m call asked answer)
    ascends_answer m call asked (replied reply) h = ascends_after m call asked h
    ascends_answer m call asked refused h = h

    module _ (low high : ℕ) where
      abbrev pub own : Pairs P → Pairs P
      own m = between m low high

      ascends_own : (m : Pairs P) → Ascends m → Ascends (own m)
      ascends_own m h = (h.0, Rises-between 0 h.0 low high m h.1)

      -- the pairs with these keys, by look-ups
      is_own : (m w : Pairs P) → Ascends m → Ascends w → ((j : ℕ) → low ≤ j → j < high → lookup m j ≡ lookup w j) → ((j : ℕ) → (j < low) ⊎ (high ≤ j) → lookup w j ≡ None) → own m ≡ w
      is_own m w h g inside outside =
          same_from_lookups 0 (ascends_own m h).0 0 g.0 (own m) w (ascends_own m h).1 g.1
          (λ j.
          elim (cases_lt j low) [
            | inl below ↦ lookup-between_outside m low high j (inl below) ∙ sym (outside j (inl below))
            | inr from ↦
                elim (cases_lt j high) [
                  | inl to ↦ lookup-between_inside m low high j from to ∙ inside j from to
                  | inr above ↦ lookup-between_outside m low high j (inr above) ∙ sym (outside j (inr above))
                ]
          ])

      module _ (m : Pairs P) (h : Ascends m) (k : ℕ) (from : low ≤ k) (to : k < high) where
        found : lookup (own m) k ≡ lookup m k
        found = lookup-between_inside m low high k from to

        own_put : (v : P) → own (put m k v) ≡ put (own m) k v
        own_put v =
            is_own (put m k v) (put (own m) k v) (ascends_put m k v h) (ascends_put (own m) k v (ascends_own m h))
            (λ j p q.
            elim (cases_eq j k) [
              | inl at ↦ subst (λ i. lookup (put m k v) i ≡ lookup (put (own m) k v) i) (sym at) (lookup-put_same m k v ∙ sym (lookup-put_same (own m) k v))
              | inr ne ↦ lookup-put_other m k v j ne ∙ (sym (lookup-between_inside m low high j p q) ∙ sym (lookup-put_other (own m) k v j ne))
            ])
            (λ j out.
            let ne : j ≢ k = λ e. elim out [ inl less ↦ omega (arith, from, to) | inr more ↦ omega (arith, from, to) ] in
            lookup-put_other (own m) k v j ne ∙ lookup-between_outside m low high j out)

        own_without : own (without m k) ≡ without (own m) k
        own_without =
            is_own (without m k) (without (own m) k) (ascends_without m k h) (ascends_without (own m) k (ascends_own m h))
            (λ j p q.
            elim (cases_eq j k) [
              | inl at ↦ subst (λ i. lookup (without m k) i ≡ lookup (without (own m) k) i) (sym at) (lookup-without_same 0 h.0 m k h.1 ∙ sym (lookup-without_same 0 (ascends_own m h).0 (own m) k (ascends_own m h).1))
              | inr ne ↦ lookup-without_other m k j ne ∙ (sym (lookup-between_inside m low high j p q) ∙ sym (lookup-without_other (own m) k j ne))
            ])
            (λ j out.
            let ne : j ≢ k = λ e. elim out [ inl less ↦ omega (arith, from, to) | inr more ↦ omega (arith, from, to) ] in
            lookup-without_other (own m) k j ne ∙ lookup-between_outside m low high j out)

        own_with : (new : Option P) → own (with_answer m k new) ≡ with_answer (own m) k new
        own_with None = own_without
        own_with (Some v) = own_put v

        own_asking : (asked : ClosureCall P) → own (after_asking m k asked) ≡ after_asking (own m) k asked
        own_asking None = refl
        own_asking (Some (old, new)) = own_with new

        own_exchange : (e : Result (Option P) (Option P)) → own (after_exchange m k e) ≡ after_exchange (own m) k e
        own_exchange (Ok new) = own_with new
        own_exchange (Err current) = refl

      -- a call on one of these keys
      own_after : (m : Pairs P) → Ascends m → (call : Call ℕ P) (asked : ClosureCall P) → IsWithin low high call → own (after same m call asked) ≡ after same (own m) call asked
      own_after m h (get k) asked w = refl
      own_after m h (insert k v) asked w = own_put m h k w.0 w.1 v
      own_after m h (remove k) asked w = own_without m h k w.0 w.1
      own_after m h (compare_exchange k old new) asked w =
          own_exchange m h k w.0 w.1 (exchange same (lookup m k) old new) ∙ ap (λ x. after_exchange (own m) k (exchange same x old new)) (sym (found m h k w.0 w.1))
      own_after m h (compute_if_present k) asked w = own_asking m h k w.0 w.1 asked
      own_after m h (compute_or_insert k) asked w = own_asking m h k w.0 w.1 asked
      own_after m h is_empty asked w = absurd w
      own_after m h keys asked w = absurd w
      own_after m h (range a b n) asked w = absurd w
      own_after m h (nearest near) asked w = absurd w
      own_after m h count asked w = absurd w

      own_closure : (m : Pairs P) → Ascends m → (call : Call ℕ P) (asked : ClosureCall P) → IsWithin low high call → IsClosureCalled m call asked → IsClosureCalled (own m) call asked
      own_closure m h (get k) asked w c = c
      own_closure m h (insert k v) asked w c = c
      own_closure m h (remove k) asked w c = c
      own_closure m h (compare_exchange k old new) asked w c = c
      own_closure m h (compute_if_present k) asked w c = subst (λ x. CallsIfPresent x asked) (sym (found m h k w.0 w.1)) c
      own_closure m h (compute_or_insert k) asked w c = subst (λ x. CallsAlways x asked) (sym (found m h k w.0 w.1)) c
      own_closure m h is_empty asked w c = absurd w
      own_closure m h keys asked w c = absurd w
      own_closure m h (range a b n) asked w c = absurd w
      own_closure m h (nearest near) asked w c = absurd w
      own_closure m h count asked w c = absurd w

      own_reply : (m : Pairs P) → Ascends m → (call : Call ℕ P) (asked : ClosureCall P) → IsWithin low high call → reply_of same m call asked ≡ reply_of same (own m) call asked
      own_reply m h (get k) asked w = ap old_value (sym (found m h k w.0 w.1))
      own_reply m h (insert k v) asked w = ap old_value (sym (found m h k w.0 w.1))
      own_reply m h (remove k) asked w = ap old_value (sym (found m h k w.0 w.1))
      own_reply m h (compare_exchange k old new) asked w = ap (λ x. exchanged (exchange same x old new)) (sym (found m h k w.0 w.1))
      own_reply m h (compute_if_present k) asked w = refl
      own_reply m h (compute_or_insert k) asked w = ap old_value (sym (found m h k w.0 w.1))
      own_reply m h is_empty asked w = absurd w
      own_reply m h keys asked w = absurd w
      own_reply m h (range a b n) asked w = absurd w
      own_reply m h (nearest near) asked w = absurd w
      own_reply m h count asked w = absurd w

      never_refused : (m : Pairs P) (call : Call ℕ P) (asked : ClosureCall P) → MayAnswer same never m call asked refused → ⊥
      never_refused m (get k) asked h = h.1
      never_refused m (insert k v) asked h = h.1
      never_refused m (remove k) asked h = h.1
      never_refused m (compare_exchange k old new) asked h = h.1
      never_refused m (compute_if_present k) asked h = h.1
      never_refused m (compute_or_insert k) asked h = h.1
      never_refused m is_empty asked h = h.1
      never_refused m keys asked h = h.1
      never_refused m (range a b n) asked h = h.1
      never_refused m (nearest near) asked h = h.1
      never_refused m count asked h = h.1

      own_answer : (m : Pairs P) → Ascends m → (call : Call ℕ P) (asked : ClosureCall P) (answer : Answer ℕ P P) → IsWithin low high call → MayAnswer same never m call asked answer → MayAnswer same never (own m) call asked answer
      own_answer m h call asked (replied reply) w may = (own_closure m h call asked w may.0, may.1 ∙ own_reply m h call asked w)
      own_answer m h call asked refused w may = absurd (never_refused m call asked may)

      own_left : (m : Pairs P) → Ascends m → (call : Call ℕ P) (asked : ClosureCall P) (answer : Answer ℕ P P) → IsWithin low high call → own (after_answer same m call asked answer) ≡ after_answer same (own m) call asked answer
      own_left m h call asked (replied reply) w = own_after m h call asked w
      own_left m h call asked refused w = refl

      -- somebody else's call
      others_leave : (m : Pairs P) → Ascends m → (call : Call ℕ P) (asked : ClosureCall P) (answer : Answer ℕ P P) → ((key : ℕ) → low ≤ key → key < high → Leaves key call) → own (after_answer same m call asked answer) ≡ own m
      others_leave m h call asked answer leave =
          is_own (after_answer same m call asked answer) (own m) (ascends_answer m call asked answer h) (ascends_own m h)
          (λ j p q. answer_leaves j same m call asked answer (leave j p q) ∙ sym (lookup-between_inside m low high j p q))
          (λ j out. lookup-between_outside m low high j out)

      pub own_run : (owner : ℕ) (m n : Pairs P) (es : List (Entry P)) → Ascends m → IsLegal same never m (operations_of es) n → OwnsKeys owner low high es → IsLegal same never (own m) (operations_of (entries_of owner es)) (own n)
      own_run owner m n [] h legal owns = ap own legal
      own_run owner m n (e ∷ es) h legal owns =
          let next : Pairs P = after_operation same m e.operation in
          let rest = own_run owner next n es (ascends_answer m e.operation.call e.operation.asked e.operation.answer h) legal.1 owns.2 in
          let goal : Bool → Type 0 = λ b. IsLegal same never (own m) (operations_of (cond b (e ∷ entries_of owner es) (entries_of owner es))) (own n) in
          elim (cases_eq owner e.caller) [
            | inl at ↦
                let w = owns.0 (sym at) in
                subst goal (sym (eq-eqb owner e.caller at)) (
                  own_answer m h e.operation.call e.operation.asked e.operation.answer w legal.0,
                  subst (λ l. IsLegal same never l (operations_of (entries_of owner es)) (own n)) (own_left m h e.operation.call e.operation.asked e.operation.answer w) rest,
                )
            | inr ne ↦
                subst goal (sym (ne_eqb owner e.caller ne))
                (subst (λ l. IsLegal same never l (operations_of (entries_of owner es)) (own n)) (others_leave m h e.operation.call e.operation.asked e.operation.answer (owns.1 (λ i. ne (sym i)))) rest)
          ]
