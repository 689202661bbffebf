-- The entries of calls with closures are true.
use Rattle.std.proofs.Common.{◌≡◌, ℕ, ◌+◌, nat_eq, List, [], ◌∷◌, ◌++◌, Option, Some, None, refl, sym, ap, ◌∙◌, subst, arith}
use mathlib.Core.Logic.{dite}
use native.Mathlib.Decide.{ℕ_discrete}
use Rattle.spec_map.specs.Call.{old_value}
use Rattle.spec_map.specs.Legal.{CallsIfPresent}
use Rattle.spec_map.specs.Map.{Pairs, Rises, lookup, put, with_answer}
use Rattle.spec_map.proofs.MapLaws.{Rises-wider, Rises-put, lookup-put_same, lookup-put_other, same_from_lookups}
use Rattle.share_rule.specs.History.{Entry, IsHistory}
use Rattle.live_updates.specs.inner.Lookups.{lookup_of, IsLookup}
use Rattle.live_updates.specs.inner.Updates.{update_of, IsUpdate}
use Rattle.live_updates.proofs.Ended.{goes_on}
use Rattle.live_updates.proofs.Rising.{history_ascends}
use Rattle.live_updates.specs.ClosureEntries.{computed_with, inserted_with}
use Rattle.live_updates.specs.inner.Ends.{without_call, nowhere, kept, called_with}

abbrev History : Type 0
History = List (Entry ℕ)

none_some : {A : Type 0} {x : A} → None ≡ Some x → ⊥
none_some e = cc

the_some : {A : Type 0} {x y : A} → Some x ≡ Some y → x ≡ y
the_some e = cc

-- COMPUTE_IF_PRESENT
absent_legal : (c k : ℕ) (history : History) (m : Pairs ℕ) → IsHistory nat_eq history m → lookup m k ≡ None → IsHistory nat_eq (history ++ computed_with c k None ∷ []) m
absent_legal c k history m run none = goes_on history m m c ((computed_with c k None).operation) run (subst (λ (z : Option ℕ). CallsIfPresent z None) (sym none) refl, refl) refl

present_legal : (c k x : ℕ) (new : Option ℕ) (history : History) (m : Pairs ℕ) → IsHistory nat_eq history m → lookup m k ≡ Some x → IsHistory nat_eq (history ++ computed_with c k (Some (x, new)) ∷ []) (with_answer m k new)
present_legal c k x new history m run has =
    goes_on history m (with_answer m k new) c ((computed_with c k (Some (x, new))).operation) run (subst (λ (z : Option ℕ). CallsIfPresent z (Some (Some x, new))) (sym has) (new, refl), refl) refl

absent_ends : (c k : ℕ) (found : Option ℕ) (e : Entry ℕ) → without_call c k found ≡ Some e → (e.caller ≡ c) × ((history : History) (m : Pairs ℕ) → IsHistory nat_eq history m → lookup m k ≡ found → IsHistory nat_eq (history ++ e ∷ []) m)
absent_ends c k None e is =
    let same : computed_with c k None ≡ e = the_some is in (
      sym (ap (λ (z : Entry ℕ). z.caller) same),
      (λ history m run none. subst (λ (z : Entry ℕ). IsHistory nat_eq (history ++ z ∷ []) m) same (absent_legal c k history m run none)),
    )
absent_ends c k (Some x) e is = absurd (none_some is)

pub present_lookup : (c k : ℕ) → IsLookup (lookup_of c k (without_call c k))
present_lookup c k = record {
  by = λ found e is. (absent_ends c k found e is).0;
  legal = λ found e is. (absent_ends c k found e is).1;
}

pub present_update : (c k x : ℕ) (new : Option ℕ) → IsUpdate (update_of c k (Some x) new (called_with c k (Some x) new))
present_update c k x new = record { by = refl; legal = present_legal c k x new }

-- COMPUTE_OR_INSERT
insert_legal : (c k : ℕ) (before : Option ℕ) (new : ℕ) (history : History) (m : Pairs ℕ) → IsHistory nat_eq history m → lookup m k ≡ before → IsHistory nat_eq (history ++ inserted_with c k before new ∷ []) (put m k new)
insert_legal c k before new history m run has =
    goes_on history m (put m k new) c ((inserted_with c k before new).operation) run ((new, ap (λ (z : Option ℕ). Some (z, Some new)) (sym has)), ap old_value (sym has)) refl

pub always_lookup : (c k : ℕ) → IsLookup (lookup_of c k nowhere)
always_lookup c k = record {
  by = λ found e is. absurd (none_some is);
  legal = λ found e is. absurd (none_some is);
}

pub always_update : (c k : ℕ) (before : Option ℕ) (new : ℕ) → IsUpdate (update_of c k before (Some new) (inserted_with c k before new))
always_update c k before new = record { by = refl; legal = insert_legal c k before new }

-- GET_OR_INSERT: a value that is stored again changes nothing
put_again : (m : Pairs ℕ) (k x high : ℕ) → Rises 0 high m → lookup m k ≡ Some x → put m k x ≡ m
put_again m k x high rises has =
    let more : ℕ = high + (k + 1) in
    same_from_lookups 0 more 0 high (put m k x) m (Rises-put 0 more m k x (Rises-wider 0 high 0 more m (omega arith) (omega arith) rises) (omega arith) (omega arith)) rises
    (λ j. dite (ℕ_discrete j k)
    (λ e. ap (lookup (put m k x)) e ∙ (lookup-put_same m k x ∙ (sym has ∙ ap (lookup m) (sym e))))
    (λ ne. lookup-put_other m k x j ne))

keep_ends : (c k : ℕ) (found : Option ℕ) (e : Entry ℕ) → kept c k found ≡ Some e → (e.caller ≡ c) × ((history : History) (m : Pairs ℕ) → IsHistory nat_eq history m → lookup m k ≡ found → IsHistory nat_eq (history ++ e ∷ []) m)
keep_ends c k None e is = absurd (none_some is)
keep_ends c k (Some x) e is =
    let same : inserted_with c k (Some x) x ≡ e = the_some is in (
      sym (ap (λ (z : Entry ℕ). z.caller) same),
      (λ history m run has.
          let rises = history_ascends history m run in
          subst (λ (z : Entry ℕ × Pairs ℕ). IsHistory nat_eq (history ++ z.0 ∷ []) z.1) (λ i. (same i, put_again m k x rises.0 rises.1 has i)) (insert_legal c k (Some x) x history m run has)),
    )

pub keep_lookup : (c k : ℕ) → IsLookup (lookup_of c k (kept c k))
keep_lookup c k = record {
  by = λ found e is. (keep_ends c k found e is).0;
  legal = λ found e is. (keep_ends c k found e is).1;
}
