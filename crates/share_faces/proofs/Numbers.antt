-- A map under which a number represents itself, and two are compared as numbers.
use Rattle.std.proofs.Common.{◌≡◌, ℕ, Bool, true, false, List, [], ◌++◌, sym, refl, ◌∙◌, subst}
use Rattle.std.specs.Prelude.{Option, Some, None, Result, Ok, Err, IfSome, if◌then◌else◌}
use Rattle.share_holds.proofs.Last.{last_allowed}
use Rattle.share_guards.specs.Operations.{WasLastCalled, computed_with, inserted_with, returned}
use Rattle.share_rule.specs.History.{Entry, entry, operations_of}
use Rattle.share_rule.specs.Known.{Known, MadeCall, SeenMore}
use Rattle.share_faces.specs.Returned.{ReturnsExchanged, ReturnsInserted, ReturnsOld}
use Rattle.spec_map.specs.Call.{Call, Operation, Reply, compare_exchange, exchanged, old_value}
use Rattle.spec_map.specs.Legal.{IsLegal, exchange}
use Rattle.spec_map.specs.Map.{lookup}
use Rattle.spec_map.specs.Refusal.{never}
use Rattle.spec_olc.specs.Meaning.{both_of, exchanged_of, in_some}
use Rattle.spec_olc.specs.Runs.{same_number}

same_option : (x : Option ℕ) → in_some (λ (n : ℕ). n) x ≡ x
same_option None = refl
same_option (Some n) = refl

same_both : (x : Option (ℕ × Option ℕ)) → in_some (both_of (λ (n : ℕ). n)) x ≡ x
same_both None = refl
same_both (Some (old, None)) = refl
same_both (Some (old, Some new)) = refl

abbrev answer : Result (Option ℕ) (Option ℕ) → Reply ℕ ℕ ℕ
answer r = exchanged r

-- WHAT COMPARE_EXCHANGE STORED is what it was handed
stored_is : (b : Bool) (new r current : Option ℕ) → answer (Ok r) ≡ answer (if b then Ok new else Err current) → r ≡ new
stored_is true new r current e = cc
stored_is false new r current e = absurd (let clash = e in cc)

exchange_is : (here : Option ℕ) (old : ℕ) (new r : Option ℕ) → answer (Ok r) ≡ answer (exchange same_number here old new) → r ≡ new
exchange_is None old new r e = absurd (let clash = e in cc)
exchange_is (Some current) old new r e = stored_is (same_number current old) new r (Some current) e

module _ (k n : Known ℕ) where
  stored_new : (key old : ℕ) (new r : Option ℕ) → MadeCall same_number k (returned (compare_exchange key old new) (exchanged (Ok r))) n → r ≡ new
  stored_new key old new r h =
      let a = last_allowed same_number [] (k.seen ++ h.between) (entry k.caller (returned (compare_exchange key old new) (exchanged (Ok r)))) h.legal.0
      (subst (λ (l : List (Entry ℕ)). IsLegal same_number never [] (operations_of l) h.legal.0) h.seen h.legal.1)
      in
      exchange_is (lookup a.0 key) old new r a.1.1

  module _ (same : ℕ → ℕ → Bool) (meaning : ℕ → ℕ) (mean : meaning ≡ (λ (n : ℕ). n)) (compare : same ≡ same_number) where
    pub numbers_made : (operation : (ℕ → ℕ) → Operation ℕ ℕ ℕ) → MadeCall same k (operation meaning) n → MadeCall same_number k (operation (λ (n : ℕ). n)) n
    numbers_made operation h =
        subst (λ (m : ℕ → ℕ). MadeCall same_number k (operation m) n) mean (subst (λ (s : ℕ → ℕ → Bool). MadeCall s k (operation meaning) n) compare h)

    pub numbers_seen : SeenMore same k n → SeenMore same_number k n
    numbers_seen h = subst (λ (s : ℕ → ℕ → Bool). SeenMore s k n) compare h

    -- a call that returns the previous value
    pub returns_old : {V : Type 0} (of_number : ℕ → V) (call : (ℕ → ℕ) → Call ℕ ℕ) (number : Option ℕ) (before : Option V) → before ≡ in_some of_number number
        → MadeCall same k (returned (call meaning) (old_value (in_some meaning number))) n → ReturnsOld of_number k (call (λ (n : ℕ). n)) before n
    returns_old of_number call number before is h = (
      number,
      is,
      subst (λ (x : Option ℕ). MadeCall same_number k (returned (call (λ (n : ℕ). n)) (old_value x)) n) (same_option number)
          (numbers_made (λ (m : ℕ → ℕ). returned (call m) (old_value (in_some m number))) h),
    )

    -- compare_exchange, by what the map under the lock returned
    exchanged_made : (key old : ℕ) (new : Option ℕ) (r : Result (Option ℕ) (Option ℕ)) → MadeCall same k (returned (compare_exchange key (meaning old) (in_some meaning new)) (exchanged (exchanged_of meaning r))) n
        → MadeCall same_number k (returned (compare_exchange key old new) (exchanged (exchanged_of (λ (n : ℕ). n) r))) n
    exchanged_made key old new r h =
        subst (λ (x : Option ℕ). MadeCall same_number k (returned (compare_exchange key old x) (exchanged (exchanged_of (λ (n : ℕ). n) r))) n) (same_option new)
        (numbers_made (λ (m : ℕ → ℕ). returned (compare_exchange key (m old) (in_some m new)) (exchanged (exchanged_of m r))) h)

    module _ {V : Type 0} (number : V → ℕ) (of_number : ℕ → V) (key old : ℕ) (new : Option V) (wanted : Option ℕ) (wanted_is : wanted ≡ in_some number new) where
      abbrev Made : Result (Option ℕ) (Option ℕ) → Type 0
      Made r = MadeCall same k (returned (compare_exchange key (meaning old) (in_some meaning wanted)) (exchanged (exchanged_of meaning r))) n

      abbrev MadeNow : Option ℕ → Result (Option ℕ) (Option ℕ) → Type 0
      MadeNow x r = MadeCall same_number k (returned (compare_exchange key old x) (exchanged r)) n

      pub returns_stored : (r : Result (Option ℕ) (Option ℕ)) (x : Option ℕ) → r ≡ Ok x → Made r → ReturnsExchanged of_number k number key old new (Ok new) n
      returns_stored r x is h =
          let a = exchanged_made key old wanted (Ok x) (subst Made is h) in
          let b = subst (λ (y : Option ℕ). MadeNow wanted (Ok y)) (same_option x) a in
          let c = subst (λ (y : Option ℕ). MadeNow wanted (Ok y)) (stored_new key old wanted x b) b in (refl, subst (λ (y : Option ℕ). MadeNow y (Ok y)) wanted_is c)

      pub returns_current : (r : Result (Option ℕ) (Option ℕ)) (x : Option ℕ) (current : Option V) → r ≡ Err x → current ≡ in_some of_number x → Made r → ReturnsExchanged of_number k number key old new (Err current) n
      returns_current r x current is current_is h =
          let a = exchanged_made key old wanted (Err x) (subst Made is h) in
          let b = subst (λ (y : Option ℕ). MadeNow wanted (Err y)) (same_option x) a in (x, current_is, subst (λ (y : Option ℕ). MadeNow y (Err x)) wanted_is b)

    -- compute_if_present
    pub computed_numbers : (key : ℕ) (both : Option (ℕ × Option ℕ)) → MadeCall same k (computed_with key (in_some (both_of meaning) both)) n → MadeCall same_number k (computed_with key both) n
    computed_numbers key both h =
        subst (λ (x : Option (ℕ × Option ℕ)). MadeCall same_number k (computed_with key x) n) (same_both both)
        (numbers_made (λ (m : ℕ → ℕ). computed_with key (in_some (both_of m) both)) h)

    -- compute_or_insert
    pub returns_inserted : {V F : Type 0} (of_number : ℕ → V) (step : F → Option ℕ → ℕ → F → Type 0) (last : F) (key : ℕ) (old : Option ℕ) (new : ℕ) (before : Option V) → before ≡ in_some of_number old
        → MadeCall same k (inserted_with key (in_some meaning old) new) n → WasLastCalled step last (in_some meaning) meaning (in_some meaning old) new → ReturnsInserted of_number k step last key before n
    returns_inserted {V} {F} of_number step last key old new before is h w =
        let v = subst (λ (m : ℕ → ℕ). WasLastCalled step last (in_some m) m (in_some m old) new) mean w in
        let argument : v.argument ≡ old = sym (same_option v.argument) ∙ (v.argument_is ∙ same_option old) in (
          old,
          new,
          is,
          subst (λ (x : Option ℕ). MadeCall same_number k (inserted_with key x new) n) (same_option old)
              (numbers_made (λ (m : ℕ → ℕ). inserted_with key (in_some m old) new) h),
          (v.before, subst (λ (x : ℕ). step v.before old x last) v.answer_is (subst (λ (x : Option ℕ). step v.before x v.answer last) argument v.called)),
        )

-- THE LAST CALL of the closure of compute_if_present
module _ {F : Type 0} (step : F → ℕ → Option ℕ → F → Type 0) (last : F) (meaning : ℕ → ℕ) (mean : meaning ≡ (λ (n : ℕ). n)) where
  number_called : (old : ℕ) (new : Option ℕ) → WasLastCalled step last meaning (in_some meaning) (meaning old) (in_some meaning new) → (state : F) × step state old new last
  number_called old new w =
      let v = subst (λ (m : ℕ → ℕ). WasLastCalled step last m (in_some m) (m old) (in_some m new)) mean w in
      let result : v.answer ≡ new = sym (same_option v.answer) ∙ (v.answer_is ∙ same_option new) in
      (v.before, subst (λ (x : Option ℕ). step v.before old x last) result (subst (λ (x : ℕ). step v.before x v.answer last) v.argument_is v.called))

  pub numbers_called : (both : Option (ℕ × Option ℕ)) → IfSome both (λ pair. WasLastCalled step last meaning (in_some meaning) (meaning pair.0) (in_some meaning pair.1))
      → IfSome both (λ pair. (state : F) × step state pair.0 pair.1 last)
  numbers_called None h = tt
  numbers_called (Some pair) h = number_called pair.0 pair.1 h
