-- Single calls of a map of payloads as steps of a run, and one step before others.
use Rattle.std.proofs.Common.{◌≡◌, ◌≢◌, ℕ, Bool, true, false, IsTrue, ◌↔◌, List, [], ◌∷◌, map, Option, Some, None, length, refl, ap, sym, subst, ◌∙◌, arith}
use Rattle.std.proofs.lemmas.Bool.{ne_eqb}
use Rattle.spec_map.specs.Map.{Pairs, lookup, put, without, with_answer}
use Rattle.spec_map.specs.Call.{get, insert, remove, compute_if_present, is_empty, keys, old_value, computed, tested, listed, replied, refused}
use Rattle.spec_map.specs.Legal.{IsLegal}
use Rattle.spec_map.specs.Refusal.{at_new_node, NeedsNode}
use Rattle.face_runs.specs.declared.payload_calls.PayloadCall.{PayloadCall}
use Rattle.face_runs.specs.declared.payload_calls.PayloadCall.TheVariants.{Get, Insert, Remove, ComputeIfPresent, IsEmpty, Keys}
use Rattle.face_runs.specs.declared.payload_calls.PayloadReply.{PayloadReply}
use Rattle.face_runs.specs.declared.payload_calls.PayloadReply.TheVariants.{Seen, Unseen, Old, Tested, Refused}
use Rattle.face_runs.specs.PayloadCalls.{Shows, Reports, IsLegalPayloadReply, AreLegalPayloadReplies}

module _ {K P : Type 0} (number : K → ℕ) (read : ℕ → K) (alike : P → P → Type 0) (same : P → P → Bool) where
  abbrev IsLegalOne : Pairs P → PayloadCall K P → PayloadReply K P → Pairs P → Type 0
  IsLegalOne m call reply n = IsLegalPayloadReply number read alike same at_new_node m call reply n

  abbrev AreLegal : Pairs P → List (PayloadCall K P) → List (PayloadReply K P) → Pairs P → Type 0
  AreLegal m calls replies n = AreLegalPayloadReplies number read alike same at_new_node m calls replies n

  -- a run that starts with one call
  pub run_first : (m k n : Pairs P) (call : PayloadCall K P) (calls : List (PayloadCall K P)) (reply : PayloadReply K P) (replies : List (PayloadReply K P)) → IsLegalOne m call reply k → AreLegal k calls replies n → AreLegal m (call ∷ calls) (reply ∷ replies) n
  run_first m k n call calls reply replies step run = record {
    operations = step.operation ∷ run.operations;
    made = (step.made, run.made);
    legal = (step.allowed, subst (λ x. IsLegal same at_new_node x run.operations n) step.leads run.legal);
  }

  pub run_of_none : (m : Pairs P) → AreLegal m [] [] m
  run_of_none m = record { operations = []; made = tt; legal = refl }

  module _ (m n : Pairs P) (key : K) where
    pub seen_step : (shown : Option P) → Shows number read alike shown (lookup m (number key)) → IsLegalOne m (Get key) (Seen shown) m
    seen_step shown shows = record {
      operation = record { call = get (number key); asked = None; answer = replied (old_value (lookup m (number key))) };
      made = record { called = refl; asked = tt; told = (lookup m (number key), refl, shows) };
      allowed = (refl, refl);
      leads = refl;
    }

    pub unseen_step : (current : P) → lookup m (number key) ≡ Some current → IsLegalOne m (Get key) Unseen m
    unseen_step current is = record {
      operation = record { call = get (number key); asked = None; answer = replied (old_value (lookup m (number key))) };
      made = record { called = refl; asked = tt; told = (current, ap (λ x. replied (old_value x)) is) };
      allowed = (refl, refl);
      leads = refl;
    }

    pub insert_step : (payload : P) (before : Option P) → before ≡ lookup m (number key) → n ≡ put m (number key) payload → IsLegalOne m (Insert key payload) (Old before) n
    insert_step payload before was puts = record {
      operation = record { call = insert (number key) payload; asked = None; answer = replied (old_value (lookup m (number key))) };
      made = record { called = refl; asked = tt; told = ap (λ x. replied (old_value x)) (sym was) };
      allowed = (refl, refl);
      leads = puts;
    }

    pub insert_refused : (payload : P) → NeedsNode m (number key) → n ≡ m → IsLegalOne m (Insert key payload) Refused n
    insert_refused payload new kept = record {
      operation = record { call = insert (number key) payload; asked = None; answer = refused };
      made = record { called = refl; asked = tt; told = refl };
      allowed = (refl, new);
      leads = kept;
    }

    pub remove_step : (before : Option P) → before ≡ lookup m (number key) → n ≡ without m (number key) → IsLegalOne m (Remove key) (Old before) n
    remove_step before was takes = record {
      operation = record { call = remove (number key); asked = None; answer = replied (old_value (lookup m (number key))) };
      made = record { called = refl; asked = tt; told = ap (λ x. replied (old_value x)) (sym was) };
      allowed = (refl, refl);
      leads = takes;
    }

    computed_at : (answer found : Option P) → lookup m (number key) ≡ found → (found ≡ None → n ≡ m) → ((current : P) → found ≡ Some current → n ≡ with_answer m (number key) answer) → IsLegalOne m (ComputeIfPresent key answer) (Old found) n
    computed_at answer None is absent present = record {
      operation = record { call = compute_if_present (number key); asked = None; answer = replied (computed None) };
      made = record { called = refl; asked = tt; told = refl };
      allowed = (rw is refl, refl);
      leads = absent refl;
    }
    computed_at answer (Some current) is absent present = record {
      operation = record { call = compute_if_present (number key); asked = Some (Some current, answer); answer = replied (computed (Some (current, answer))) };
      made = record { called = refl; asked = refl; told = refl };
      allowed = (rw is (answer, refl), refl);
      leads = present current refl;
    }

    pub compute_step : (answer before : Option P) → before ≡ lookup m (number key) → (lookup m (number key) ≡ None → n ≡ m) → ((current : P) → lookup m (number key) ≡ Some current → n ≡ with_answer m (number key) answer) → IsLegalOne m (ComputeIfPresent key answer) (Old before) n
    compute_step answer before was absent present = computed_at answer before (sym was) (λ none. absent (sym was ∙ none)) (λ current is. present current (sym was ∙ is))

  pub empty_step : (m : Pairs P) (b : Bool) → (IsTrue b ↔ (m ≡ [])) → IsLegalOne m IsEmpty (Tested b) m
  empty_step [] true told = record {
    operation = record { call = is_empty; asked = None; answer = replied (tested true) };
    made = record { called = refl; asked = tt; told = refl };
    allowed = (refl, refl);
    leads = refl;
  }
  empty_step [] false told = absurd (let t = told.1 refl in cc)
  empty_step (x ∷ xs) true told = absurd (let e = told.0 refl in cc)
  empty_step (x ∷ xs) false told =
      let some : length (x ∷ xs) ≢ 0 = omega arith in
      record {
        operation = record { call = is_empty; asked = None; answer = replied (tested false) };
        made = record { called = refl; asked = tt; told = refl };
        allowed = (refl, rw (ne_eqb (length (x ∷ xs)) 0 some) refl);
        leads = refl;
      }

  pub keys_step : (m : Pairs P) (reply : PayloadReply K P) → Reports number read alike Keys reply (replied (listed (map (λ (e : ℕ × P). e.0) m))) → IsLegalOne m Keys reply m
  keys_step m reply told = record {
    operation = record { call = keys; asked = None; answer = replied (listed (map (λ (e : ℕ × P). e.0) m)) };
    made = record { called = refl; asked = tt; told = told };
    allowed = (refl, refl);
    leads = refl;
  }

  pub keys_refused : (m : Pairs P) → IsLegalOne m Keys Refused m
  keys_refused m = record {
    operation = record { call = keys; asked = None; answer = refused };
    made = record { called = refl; asked = tt; told = refl };
    allowed = (refl, tt);
    leads = refl;
  }
