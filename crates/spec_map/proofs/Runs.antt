-- The laws of legal runs.
use Rattle.std.proofs.Common.{◌≡◌, ℕ, ◌<◌, ◌^◌, Bool, List, [], ◌∷◌, ◌++◌, Option, Some, None, Result, Ok, Err, map, refl, sym, ap, subst, ◌∙◌, arith}
use Rattle.spec_map.specs.Map.{Pairs, IsMap, lookup, with_answer}
use Rattle.spec_map.specs.Call.{Call, get, insert, remove, compare_exchange, compute_if_present, compute_or_insert, is_empty, keys, range, nearest, count}
use Rattle.spec_map.specs.Call.{ClosureCall, Answer, replied, refused, Operation}
use Rattle.spec_map.specs.Refusal.{MayRunOut, at_new_key, at_new_node, MayRefuse}
use Rattle.spec_map.specs.Legal.{IsLegal, MayAnswer, after_operation, after_answer, after, after_asking, after_exchange, exchange, KeyFitsU64, KeysFitU64}
use Rattle.spec_map.specs.Request.{Request, request_of, is_refusal}
use Rattle.spec_map.proofs.MapLaws.{Rises-put, Rises-without}

module _ {P : Type 0} (same : P → P → Bool) (r : MayRunOut) where
  -- one run after another
  pub IsLegal-append : (m k n : Pairs P) (ds es : List (Operation ℕ P P)) → IsLegal same r m ds k → IsLegal same r k es n → IsLegal same r m (ds ++ es) n
  IsLegal-append m k n [] es first then = subst (λ (l : Pairs P). IsLegal same r l es n) first then
  IsLegal-append m k n (d ∷ ds) es first then = (first.0, IsLegal-append (after_operation same m d) k n ds es first.1 then)

module _ {P : Type 0} where
  -- what a call leaves is a map
  IsMap-with_answer : (m : Pairs P) (k : ℕ) (new : Option P) → k < 2 ^ 64 → IsMap m → IsMap (with_answer m k new)
  IsMap-with_answer m k None wide h = Rises-without 0 (2 ^ 64) m k h
  IsMap-with_answer m k (Some v) wide h = Rises-put 0 (2 ^ 64) m k v h (omega arith) wide

  IsMap-after_asking : (m : Pairs P) (k : ℕ) (asked : ClosureCall P) → k < 2 ^ 64 → IsMap m → IsMap (after_asking m k asked)
  IsMap-after_asking m k None wide h = h
  IsMap-after_asking m k (Some (old, new)) wide h = IsMap-with_answer m k new wide h

  IsMap-after_exchange : (m : Pairs P) (k : ℕ) (e : Result (Option P) (Option P)) → k < 2 ^ 64 → IsMap m → IsMap (after_exchange m k e)
  IsMap-after_exchange m k (Ok new) wide h = IsMap-with_answer m k new wide h
  IsMap-after_exchange m k (Err current) wide h = h

  IsMap-after : (same : P → P → Bool) (m : Pairs P) (call : Call ℕ P) (asked : ClosureCall P) → KeyFitsU64 call → IsMap m → IsMap (after same m call asked)
  IsMap-after same m (get k) asked wide h = h
  IsMap-after same m (insert k v) asked wide h = Rises-put 0 (2 ^ 64) m k v h (omega arith) wide
  IsMap-after same m (remove k) asked wide h = Rises-without 0 (2 ^ 64) m k h
  IsMap-after same m (compare_exchange k old new) asked wide h = IsMap-after_exchange m k (exchange same (lookup m k) old new) wide h
  IsMap-after same m (compute_if_present k) asked wide h = IsMap-after_asking m k asked wide h
  IsMap-after same m (compute_or_insert k) asked wide h = IsMap-after_asking m k asked wide h
  IsMap-after same m is_empty asked wide h = h
  IsMap-after same m keys asked wide h = h
  IsMap-after same m (range a b n) asked wide h = h
  IsMap-after same m (nearest near) asked wide h = h
  IsMap-after same m count asked wide h = h

  IsMap-after_answer : (same : P → P → Bool) (m : Pairs P) (call : Call ℕ P) (asked : ClosureCall P) (answer : Answer ℕ P P) → KeyFitsU64 call → IsMap m → IsMap (after_answer same m call asked answer)
  IsMap-after_answer same m call asked (replied reply) wide h = IsMap-after same m call asked wide h
  IsMap-after_answer same m call asked refused wide h = h

  pub run_stays : (same : P → P → Bool) (r : MayRunOut) (m n : Pairs P) (ds : List (Operation ℕ P P)) → IsMap m → KeysFitU64 ds → IsLegal same r m ds n → IsMap n
  run_stays same r m n [] h wide legal = subst IsMap (sym legal) h
  run_stays same r m n (d ∷ ds) h wide legal =
      run_stays same r (after_operation same m d) n ds (IsMap-after_answer same m d.call d.asked d.answer wide.0 h) wide.1 legal.1

  operation_same : (d e : Operation ℕ P P) → d.call ≡ e.call → d.asked ≡ e.asked → d.answer ≡ e.answer → d ≡ e
  operation_same d e call asked answer = λ i. record { call = call i; asked = asked i; answer = answer i }

  -- the answer is determined by the rest of an operation
  operation_once : (same : P → P → Bool) (r : MayRunOut) (m : Pairs P) (call : Call ℕ P) (asked : ClosureCall P) (answer answer' : Answer ℕ P P)
      → MayAnswer same r m call asked answer → MayAnswer same r m call asked answer' → is_refusal answer ≡ is_refusal answer' → answer ≡ answer'
  operation_once same r m call asked (replied x) (replied y) p q e = ap replied (p.1 ∙ sym q.1)
  operation_once same r m call asked (replied x) refused p q e = absurd (cc)
  operation_once same r m call asked refused (replied y) p q e = absurd (cc)
  operation_once same r m call asked refused refused p q e = refl

  pub run_once : (same : P → P → Bool) (r : MayRunOut) (m n n' : Pairs P) (ds es : List (Operation ℕ P P))
      → IsLegal same r m ds n → IsLegal same r m es n' → map request_of ds ≡ map request_of es → (ds ≡ es) × (n ≡ n')
  run_once same r m n n' [] [] p q e = (refl, p ∙ sym q)
  run_once same r m n n' [] (d ∷ es) p q e = absurd (cc)
  run_once same r m n n' (d ∷ ds) [] p q e = absurd (cc)
  run_once same r m n n' (d ∷ ds) (d' ∷ es) p q e =
      let first : request_of d ≡ request_of d' = cc in
      let rest : map request_of ds ≡ map request_of es = cc in
      let call : d'.call ≡ d.call = ap (λ (x : Request P). x.call) (sym first) in
      let asked : d'.asked ≡ d.asked = ap (λ (x : Request P). x.asked) (sym first) in
      let refusal : is_refusal d.answer ≡ is_refusal d'.answer = ap (λ (x : Request P). x.is_refused) first in
      let allowed' : MayAnswer same r m d.call d.asked d'.answer = rw (← call, ← asked) q.0 in
      let answer : d'.answer ≡ d.answer = sym (operation_once same r m d.call d.asked d.answer d'.answer p.0 allowed' refusal) in
      let same_operation : d' ≡ d = operation_same d' d call asked answer in
      let q' : IsLegal same r m (d ∷ es) n' = rw (← same_operation) q in
      let again = run_once same r (after_operation same m d) n n' ds es p.1 q'.1 rest in
      (ap (λ (x : Operation ℕ P P). x ∷ ds) (sym same_operation) ∙ ap (λ (xs : List (Operation ℕ P P)). d' ∷ xs) again.0, again.1)

  -- a tree refuses no call that a sorted vector may not refuse
  refuses_less : (m : Pairs P) (call : Call ℕ P) → MayRefuse at_new_node m call → MayRefuse at_new_key m call
  refuses_less m (get k) h = h
  refuses_less m (insert k v) h = record { absent = h.absent }
  refuses_less m (remove k) h = h
  refuses_less m (compare_exchange k old new) h = h
  refuses_less m (compute_if_present k) h = h
  refuses_less m (compute_or_insert k) h = record { absent = h.absent }
  refuses_less m is_empty h = h
  refuses_less m keys h = h
  refuses_less m (range a b n) h = h
  refuses_less m (nearest near) h = h
  refuses_less m count h = h

  answers_more : (same : P → P → Bool) (m : Pairs P) (call : Call ℕ P) (asked : ClosureCall P) (answer : Answer ℕ P P)
      → MayAnswer same at_new_node m call asked answer → MayAnswer same at_new_key m call asked answer
  answers_more same m call asked (replied x) h = h
  answers_more same m call asked refused h = (h.0, refuses_less m call h.1)

  pub run_of_tree : (same : P → P → Bool) (m n : Pairs P) (ds : List (Operation ℕ P P)) → IsLegal same at_new_node m ds n → IsLegal same at_new_key m ds n
  run_of_tree same m n [] h = h
  run_of_tree same m n (d ∷ ds) h = (answers_more same m d.call d.asked d.answer h.0, run_of_tree same (after_operation same m d) n ds h.1)
