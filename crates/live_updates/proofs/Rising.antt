-- The keys of a map ascend, whatever its history.
use Rattle.std.proofs.Common.{◌≡◌, ℕ, ◌+◌, nat_eq, List, [], ◌∷◌, Option, Some, None, Result, Ok, Err, sym, subst, arith}
use Rattle.spec_map.specs.Map.{Pairs, Rises, lookup, put, without, with_answer}
use Rattle.spec_map.specs.Call.{Call, get, insert, remove, compare_exchange, compute_if_present, compute_or_insert, is_empty, keys, range, nearest, count}
use Rattle.spec_map.specs.Call.{ClosureCall, Answer, replied, refused, Operation}
use Rattle.spec_map.specs.Legal.{IsLegal, after_operation, after_answer, after, after_asking, after_exchange, exchange}
use Rattle.spec_map.specs.Refusal.{never}
use Rattle.spec_map.proofs.MapLaws.{Rises-wider, Rises-put, Rises-without, lookup-put_same, lookup-put_other, lookup-without_same, lookup-without_other}
use Rattle.share_rule.specs.History.{Entry, operations_of, IsHistory}

abbrev pub Ascends : {V : Type 0} → Pairs V → Type 0
Ascends m = (high : ℕ) × Rises 0 high m

put_ascends : (m : Pairs ℕ) (k v : ℕ) → Ascends m → Ascends (put m k v)
put_ascends m k v h =
    let high : ℕ = h.0 + (k + 1) in
    (high, Rises-put 0 high m k v (Rises-wider 0 h.0 0 high m (omega arith) (omega arith) h.1) (omega arith) (omega arith))

without_ascends : (m : Pairs ℕ) (k : ℕ) → Ascends m → Ascends (without m k)
without_ascends m k h = (h.0, Rises-without 0 h.0 m k h.1)

answer_ascends : (m : Pairs ℕ) (k : ℕ) (new : Option ℕ) → Ascends m → Ascends (with_answer m k new)
answer_ascends m k None h = without_ascends m k h
answer_ascends m k (Some v) h = put_ascends m k v h

asking_ascends : (m : Pairs ℕ) (k : ℕ) (asked : ClosureCall ℕ) → Ascends m → Ascends (after_asking m k asked)
asking_ascends m k None h = h
asking_ascends m k (Some (old, new)) h = answer_ascends m k new h

exchange_ascends : (m : Pairs ℕ) (k : ℕ) (e : Result (Option ℕ) (Option ℕ)) → Ascends m → Ascends (after_exchange m k e)
exchange_ascends m k (Ok new) h = answer_ascends m k new h
exchange_ascends m k (Err current) h = h

call_ascends : (m : Pairs ℕ) (call : Call ℕ ℕ) (asked : ClosureCall ℕ) → Ascends m → Ascends (after nat_eq m call asked)
call_ascends m (get k) asked h = h
call_ascends m (insert k v) asked h = put_ascends m k v h
call_ascends m (remove k) asked h = without_ascends m k h
call_ascends m (compare_exchange k old new) asked h = exchange_ascends m k (exchange nat_eq (lookup m k) old new) h
call_ascends m (compute_if_present k) asked h = asking_ascends m k asked h
call_ascends m (compute_or_insert k) asked h = asking_ascends m k asked h
call_ascends m is_empty asked h = h
call_ascends m keys asked h = h
call_ascends m (range a b n) asked h = h
call_ascends m (nearest near) asked h = h
call_ascends m count asked h = h

operation_ascends : (m : Pairs ℕ) (call : Call ℕ ℕ) (asked : ClosureCall ℕ) (answer : Answer ℕ ℕ ℕ) → Ascends m → Ascends (after_answer nat_eq m call asked answer)
operation_ascends m call asked (replied reply) h = call_ascends m call asked h
operation_ascends m call asked refused h = h

run_ascends : (m n : Pairs ℕ) (ds : List (Operation ℕ ℕ ℕ)) → Ascends m → IsLegal nat_eq never m ds n → Ascends n
run_ascends m n [] h legal = subst (λ (z : Pairs ℕ). Ascends z) (sym legal) h
run_ascends m n (d ∷ ds) h legal = run_ascends (after_operation nat_eq m d) n ds (operation_ascends m d.call d.asked d.answer h) legal.1

pub history_ascends : (history : List (Entry ℕ)) (m : Pairs ℕ) → IsHistory nat_eq history m → Ascends m
history_ascends history m legal = run_ascends [] m (operations_of history) (0, tt) legal

-- A key has another value then, or none, and the others stay.
module _ {V : Type 0} (es : Pairs V) (k : ℕ) where
  pub lookup-same : (new : Option V) → Ascends es → lookup (with_answer es k new) k ≡ new
  lookup-same None h = lookup-without_same 0 h.0 es k h.1
  lookup-same (Some v) h = lookup-put_same es k v

  pub lookup-other : (new : Option V) (j : ℕ) → (j ≡ k → ⊥) → lookup (with_answer es k new) j ≡ lookup es j
  lookup-other None j ne = lookup-without_other es k j ne
  lookup-other (Some v) j ne = lookup-put_other es k v j ne
