-- Single calls as runs, and one run after another.
use Rattle.std.proofs.Common.{◌≡◌, ◌≢◌, ℕ, Bool, true, false, IsTrue, ◌↔◌, List, [], ◌∷◌, ◌++◌, Option, Some, None, Result, Ok, Err, length, map, take, nat_eq, refl, sym, ap, ◌∙◌, inl, inr, arith}
use Rattle.std.specs.Option.{option_map}
use Rattle.std.proofs.lemmas.List.{map-append}
use Rattle.std.proofs.lemmas.Bool.{eq-eqb, ne_eqb, cases_eq}
use Rattle.spec_map.specs.Map.{Pairs, lookup, put, without, with_answer, between}
use Rattle.spec_map.specs.Call.{Near, nearest, compare_exchange, ClosureCall, Answer, old_value, exchanged, computed, tested, listed, ranged, found, counted, replied, refused, Operation}
use Rattle.spec_map.specs.Near.{pair_near}
use Rattle.spec_map.specs.Refusal.{MayRunOut, at_new_node, NeedsNode}
use Rattle.spec_map.specs.Legal.{MayAnswer, after_answer, after_exchange, exchange, AnswersBy}
use Rattle.face_runs.specs.Conversion.{Conversion, converted, near_number, pair_read, exchange_read, answer_read}
use Rattle.face_runs.proofs.ReadRuns.{IsLegalRead-append}
use Rattle.face_runs.specs.declared.calls.Call.{Call as FaceCall}
use Rattle.face_runs.specs.declared.calls.Call.TheVariants.{Get, Insert, Remove, CompareExchange, ComputeIfPresent, ComputeOrInsert, IsEmpty, Keys, Range, ValueCount}
use Rattle.face_runs.specs.declared.calls.Reply.{Reply}
use Rattle.face_runs.specs.declared.calls.Reply.TheVariants.{Old, Exchanged, Computed, Tested, Found, Counted, Refused}
use Rattle.face_runs.specs.Calls.{call_of, closure_of, answer_of, AreOperations, AreLegalAnswers, AreLegalReplies, IsLegalReply}

module _ {K V : Type 0} where
  are-append : (calls calls' : List (FaceCall K V)) (answers answers' : List (Answer K V ℕ)) (ds es : List (Operation K V ℕ))
      → AreOperations calls answers ds → AreOperations calls' answers' es → AreOperations (calls ++ calls') (answers ++ answers') (ds ++ es)
  are-append [] calls' [] answers' [] es h k = k
  are-append [] calls' [] answers' (d ∷ ds) es h k = absurd h
  are-append [] calls' (y ∷ answers) answers' ds es h k = absurd h
  are-append (x ∷ calls) calls' [] answers' ds es h k = absurd h
  are-append (x ∷ calls) calls' (y ∷ answers) answers' [] es h k = absurd h
  are-append (x ∷ calls) calls' (y ∷ answers) answers' (d ∷ ds) es h k = (h.0, are-append calls calls' answers answers' ds es h.1 k)

  -- one run after another
  pub answers_more : (c : Conversion K V ℕ) (r : MayRunOut) (m k n : Pairs ℕ) (calls calls' : List (FaceCall K V)) (answers answers' : List (Answer K V ℕ))
      → AreLegalAnswers c r m calls answers k → AreLegalAnswers c r k calls' answers' n → AreLegalAnswers c r m (calls ++ calls') (answers ++ answers') n
  answers_more c r m k n calls calls' answers answers' run step = record {
    operations = run.operations ++ step.operations;
    are = are-append calls calls' answers answers' run.operations step.operations run.are step.are;
    legal = IsLegalRead-append c nat_eq r m k n run.operations step.operations run.legal step.legal;
  }

  -- a run of no calls
  pub run_of_none : (c : Conversion K V ℕ) (r : MayRunOut) (m : Pairs ℕ) (replies : List (Reply K V)) → replies ≡ [] → AreLegalReplies c r m [] replies m
  run_of_none c r m replies none = rw none (record { operations = []; are = tt; legal = record { plain = []; legal = refl; read = tt } })

  -- a run with one call more
  pub run_more : (c : Conversion K V ℕ) (r : MayRunOut) (m k n : Pairs ℕ) (calls : List (FaceCall K V)) (replies : List (Reply K V)) (call : FaceCall K V) (reply : Reply K V)
      → AreLegalReplies c r m calls replies k → IsLegalReply c r k call reply n → AreLegalReplies c r m (calls ++ call ∷ []) (replies ++ reply ∷ []) n
  run_more c r m k n calls replies call reply run step =
      rw (map-append) (answers_more c r m k n calls (call ∷ []) (map answer_of replies) (answer_of reply ∷ []) run step)

  -- a call on the numbers, read back
  answers_of : (c : Conversion K V ℕ) (m n : Pairs ℕ) (call : FaceCall K V) (answer : Answer K V ℕ) (asked : ClosureCall ℕ) (plain : Answer ℕ ℕ ℕ)
      → AnswersBy (closure_of call) asked → MayAnswer nat_eq at_new_node m (converted c (call_of call)) asked plain
      → n ≡ after_answer nat_eq m (converted c (call_of call)) asked plain → answer ≡ answer_read c (call_of call) plain → AreLegalAnswers c at_new_node m (call ∷ []) (answer ∷ []) n
  answers_of c m n call answer asked plain answers may leaves reads = record {
    operations = record { call = call_of call; asked = asked; answer = answer } ∷ [];
    are = (record { called = refl; asked = answers; answered = refl }, tt);
    legal = record {
      plain = record { call = converted c (call_of call); asked = asked; answer = plain } ∷ [];
      legal = (may, leaves);
      read = (record { call = refl; asked = refl; answer = reads }, tt);
    };
  }

  step_of : (c : Conversion K V ℕ) (m n : Pairs ℕ) (call : FaceCall K V) (reply : Reply K V) (asked : ClosureCall ℕ) (plain : Answer ℕ ℕ ℕ)
      → AnswersBy (closure_of call) asked → MayAnswer nat_eq at_new_node m (converted c (call_of call)) asked plain
      → n ≡ after_answer nat_eq m (converted c (call_of call)) asked plain → answer_of reply ≡ answer_read c (call_of call) plain → IsLegalReply c at_new_node m call reply n
  step_of c m n call reply asked plain answers may leaves reads = answers_of c m n call (answer_of reply) asked plain answers may leaves reads

module _ {K V : Type 0} (c : Conversion K V ℕ) (m n : Pairs ℕ) (key : K) where
  old_read : (value : Option V) → value ≡ option_map c.read (lookup m (c.key_number key)) → answer_of {K = K} (Old value) ≡ replied (old_value (option_map c.read (lookup m (c.key_number key))))
  old_read value is = ap (λ v. replied (old_value v)) is

  pub get_step : (value : Option V) → value ≡ option_map c.read (lookup m (c.key_number key)) → IsLegalReply c at_new_node m (Get key) (Old value) m
  get_step value is = step_of c m m (Get key) (Old value) None (replied (old_value (lookup m (c.key_number key)))) tt (refl, refl) refl (old_read value is)

  pub insert_step : (value : V) (before : Option V) → before ≡ option_map c.read (lookup m (c.key_number key)) → n ≡ put m (c.key_number key) (c.stored value)
      → IsLegalReply c at_new_node m (Insert key value) (Old before) n
  insert_step value before is puts =
      step_of c m n (Insert key value) (Old before) None (replied (old_value (lookup m (c.key_number key)))) tt (refl, refl) puts (old_read before is)

  pub insert_refused : (value : V) → NeedsNode m (c.key_number key) → n ≡ m → IsLegalReply c at_new_node m (Insert key value) Refused n
  insert_refused value new same = step_of c m n (Insert key value) Refused None refused tt (refl, new) same refl

  pub remove_step : (before : Option V) → before ≡ option_map c.read (lookup m (c.key_number key)) → n ≡ without m (c.key_number key)
      → IsLegalReply c at_new_node m (Remove key) (Old before) n
  remove_step before is takes =
      step_of c m n (Remove key) (Old before) None (replied (old_value (lookup m (c.key_number key)))) tt (refl, refl) takes (old_read before is)

  pub compute_or_insert_step : (answer : ℕ) (before : Option V) → before ≡ option_map c.read (lookup m (c.key_number key)) → n ≡ put m (c.key_number key) answer
      → IsLegalReply c at_new_node m (ComputeOrInsert key answer) (Old before) n
  compute_or_insert_step answer before is puts =
      let found = lookup m (c.key_number key) in
      step_of c m n (ComputeOrInsert key answer) (Old before) (Some (found, Some answer)) (replied (old_value found)) refl ((answer, refl), refl) puts (old_read before is)

  pub compute_or_insert_refused : (answer : ℕ) → NeedsNode m (c.key_number key) → n ≡ m → IsLegalReply c at_new_node m (ComputeOrInsert key answer) Refused n
  compute_or_insert_refused answer new same = step_of c m n (ComputeOrInsert key answer) Refused None refused tt (refl, new) same refl

  computed_at : (answer : Option ℕ) (r : Option (ℕ × Option ℕ)) (found : Option ℕ) → lookup m (c.key_number key) ≡ found
      → (lookup m (c.key_number key) ≡ None → (r ≡ None) × (n ≡ m))
      → ((current : ℕ) → lookup m (c.key_number key) ≡ Some current → (r ≡ Some (current, answer)) × (n ≡ with_answer m (c.key_number key) answer))
      → IsLegalReply c at_new_node m (ComputeIfPresent key answer) (Computed r) n
  computed_at answer r None is absent present =
      let a = absent is in
      step_of c m n (ComputeIfPresent key answer) (Computed r) None (replied (computed None)) tt (rw is refl, refl) a.1 (ap (λ x. replied (computed x)) a.0)
  computed_at answer r (Some current) is absent present =
      let p = present current is in
      step_of c m n (ComputeIfPresent key answer) (Computed r) (Some (Some current, answer)) (replied (computed (Some (current, answer))))
      refl (rw is (answer, refl), refl) p.1 (ap (λ x. replied (computed x)) p.0)

  pub compute_if_present_step : (answer : Option ℕ) (r : Option (ℕ × Option ℕ))
      → (lookup m (c.key_number key) ≡ None → (r ≡ None) × (n ≡ m))
      → ((current : ℕ) → lookup m (c.key_number key) ≡ Some current → (r ≡ Some (current, answer)) × (n ≡ with_answer m (c.key_number key) answer))
      → IsLegalReply c at_new_node m (ComputeIfPresent key answer) (Computed r) n
  compute_if_present_step answer r absent present = computed_at answer r (lookup m (c.key_number key)) refl absent present

  exchanged_at : (old : V) (new : Option V) (r : Result (Option V) (Option V)) (found : Option ℕ) → lookup m (c.key_number key) ≡ found
      → (lookup m (c.key_number key) ≡ None → (r ≡ Err None) × (n ≡ m))
      → (lookup m (c.key_number key) ≡ Some (c.stored old) → (r ≡ Ok new) × (n ≡ with_answer m (c.key_number key) (option_map c.stored new)))
      → ((current : ℕ) → lookup m (c.key_number key) ≡ Some current → current ≢ c.stored old → (r ≡ Err (Some (c.read current))) × (n ≡ m))
      → (r ≡ exchange_read c (compare_exchange key old new) (exchange nat_eq found (c.stored old) (option_map c.stored new)))
      × (n ≡ after_exchange m (c.key_number key) (exchange nat_eq found (c.stored old) (option_map c.stored new)))
  exchanged_at old new r None is absent same other = absent is
  exchanged_at old new r (Some current) is absent same other =
      elim (cases_eq current (c.stored old)) [
        | inl equal ↦ rw (eq-eqb current (c.stored old) equal) (same (is ∙ ap Some equal))
        | inr differs ↦ rw (ne_eqb current (c.stored old) differs) (other current is differs)
      ]

  pub exchange_step : (old : V) (new : Option V) (r : Result (Option V) (Option V))
      → (lookup m (c.key_number key) ≡ None → (r ≡ Err None) × (n ≡ m))
      → (lookup m (c.key_number key) ≡ Some (c.stored old) → (r ≡ Ok new) × (n ≡ with_answer m (c.key_number key) (option_map c.stored new)))
      → ((current : ℕ) → lookup m (c.key_number key) ≡ Some current → current ≢ c.stored old → (r ≡ Err (Some (c.read current))) × (n ≡ m))
      → IsLegalReply c at_new_node m (CompareExchange key old new) (Exchanged r) n
  exchange_step old new r absent same other =
      let found = lookup m (c.key_number key) in
      let at = exchanged_at old new r found refl absent same other in
      step_of c m n (CompareExchange key old new) (Exchanged r) None (replied (exchanged (exchange nat_eq found (c.stored old) (option_map c.stored new))))
      tt (refl, refl) at.1 (ap (λ x. replied (exchanged x)) at.0)

-- a test of emptiness
module _ {K V : Type 0} (c : Conversion K V ℕ) where
  pub is_empty_step : (m : Pairs ℕ) (b : Bool) → (IsTrue b ↔ (m ≡ [])) → IsLegalReply c at_new_node m IsEmpty (Tested b) m
  is_empty_step [] true told = step_of c [] [] IsEmpty (Tested true) None (replied (tested true)) tt (refl, refl) refl refl
  is_empty_step [] false told = absurd (let t = told.1 refl in cc)
  is_empty_step (x ∷ xs) true told = absurd (let e = told.0 refl in cc)
  is_empty_step (x ∷ xs) false told =
      let some : length (x ∷ xs) ≢ 0 = omega arith in
      step_of c (x ∷ xs) (x ∷ xs) IsEmpty (Tested false) None (replied (tested false)) tt (refl, rw (ne_eqb (length (x ∷ xs)) 0 some) refl) refl refl

-- what lists keys or pairs
module _ {K V : Type 0} (c : Conversion K V ℕ) (m n : Pairs ℕ) where
  pub keys_step : (reply : Reply K V) → answer_of reply ≡ replied (listed (map c.key_read (map (λ (e : ℕ × ℕ). e.0) m))) → n ≡ m → IsLegalReply c at_new_node m Keys reply n
  keys_step reply is same = step_of c m n Keys reply None (replied (listed (map (λ (e : ℕ × ℕ). e.0) m))) tt (refl, refl) same is

  pub keys_refused : n ≡ m → IsLegalReply c at_new_node m Keys Refused n
  keys_refused same = step_of c m n Keys Refused None refused tt (refl, tt) same refl

  pub range_answers : (start end : K) (limit : ℕ) (answer : Answer K V ℕ) → answer ≡ replied (ranged (take limit (between m (c.key_number start) (c.key_number end)))) → n ≡ m
      → AreLegalAnswers c at_new_node m (Range start end limit ∷ []) (answer ∷ []) n
  range_answers start end limit answer is same =
      answers_of c m n (Range start end limit) answer None (replied (ranged (take limit (between m (c.key_number start) (c.key_number end))))) tt (refl, refl) same is

  -- a range that finds no memory for its pairs
  pub range_refused : (start end : K) (limit : ℕ) → n ≡ m → IsLegalReply c at_new_node m (Range start end limit) Refused n
  range_refused start end limit same = step_of c m n (Range start end limit) Refused None refused tt (refl, tt) same refl

-- what asks for one pair, or for how many there are
module _ {K V : Type 0} (c : Conversion K V ℕ) (m : Pairs ℕ) where
  pub near_step : (call : FaceCall K V) (near : Near K) (pair : Option (K × V)) → call_of call ≡ nearest near → pair ≡ option_map (pair_read c) (pair_near m (near_number c near))
      → IsLegalReply c at_new_node m call (Found pair) m
  near_step call near pair asks is = record {
    operations = record { call = nearest near; asked = None; answer = replied (found pair) } ∷ [];
    are = (record { called = sym asks; asked = tt; answered = refl }, tt);
    legal = record {
      plain = record { call = nearest (near_number c near); asked = None; answer = replied (found (pair_near m (near_number c near))) } ∷ [];
      legal = ((refl, refl), refl);
      read = (record { call = refl; asked = refl; answer = ap (λ p. replied (found p)) is }, tt);
    };
  }

  pub count_step : (n : ℕ) → n ≡ length m → IsLegalReply c at_new_node m ValueCount (Counted n) m
  count_step n is = step_of c m m ValueCount (Counted n) None (replied (counted (length m))) tt (refl, refl) refl (ap (λ k. replied (counted k)) is)
