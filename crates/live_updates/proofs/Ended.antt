-- The entries of calls are true: they lead from a map with what was found to what is left of it.
use Rattle.std.proofs.Common.{◌≡◌, ℕ, Bool, nat_eq, List, [], ◌∷◌, ◌++◌, Option, Some, None, Result, Ok, Err, if◌then◌else◌, refl, sym, ap, ◌∙◌, subst, eq-eqb}
use Rattle.spec_map.specs.Call.{Operation, old_value, exchanged}
use Rattle.spec_map.specs.Legal.{IsLegal, Allows, exchange, after_exchange, after_operation}
use Rattle.spec_map.specs.Map.{Pairs, lookup, without}
use Rattle.spec_map.specs.Refusal.{never}
use Rattle.spec_map.proofs.MapLaws.{without-absent}
use Rattle.share_rule.specs.History.{Entry, entry, operations_of, IsHistory}
use Rattle.live_nodes.specs.Views.{ask, got}
use Rattle.live_updates.specs.Entries.{removed, swapped}
use Rattle.live_updates.specs.inner.Lookups.{lookup_of, IsLookup, removal, absence, Swap, failure, exchange_fails}
use Rattle.live_updates.specs.inner.Updates.{update_of, IsUpdate}

abbrev History : Type 0
History = List (Entry ℕ)

pub legal-append : (m k n : Pairs ℕ) (xs ys : History) → IsLegal nat_eq never m (operations_of xs) k → IsLegal nat_eq never k (operations_of ys) n → IsLegal nat_eq never m (operations_of (xs ++ ys)) n
legal-append m k n [] ys first next = subst (λ (l : Pairs ℕ). IsLegal nat_eq never l (operations_of ys) n) first next
legal-append m k n (x ∷ xs) ys first next = (first.0, legal-append (after_operation nat_eq m x.operation) k n xs ys first.1 next)

pub goes_on : (history : History) (m n : Pairs ℕ) (c : ℕ) (o : Operation ℕ ℕ ℕ) → IsHistory nat_eq history m → Allows nat_eq never m o → n ≡ after_operation nat_eq m o → IsHistory nat_eq (history ++ entry c o ∷ []) n
goes_on history m n c o run allowed is = legal-append [] m n history (entry c o ∷ []) run (allowed, is)

none_some : {A : Type 0} {x : A} → None ≡ Some x → ⊥
none_some e = cc

the_some : {A : Type 0} {x y : A} → Some x ≡ Some y → x ≡ y
the_some e = cc

-- A REMOVAL
remove_legal : (c k : ℕ) (before : Option ℕ) (history : History) (m : Pairs ℕ) → IsHistory nat_eq history m → lookup m k ≡ before → IsHistory nat_eq (history ++ removed c k before ∷ []) (without m k)
remove_legal c k before history m run is = goes_on history m (without m k) c ((removed c k before).operation) run (refl, ap old_value (sym is)) refl

removal_ends : (c k : ℕ) (found : Option ℕ) (e : Entry ℕ) → removal c k found ≡ Some e → (e.caller ≡ c) × ((history : History) (m : Pairs ℕ) → IsHistory nat_eq history m → lookup m k ≡ found → IsHistory nat_eq (history ++ e ∷ []) m)
removal_ends c k None e is =
    let same : removed c k None ≡ e = the_some is in (
      sym (ap (λ (z : Entry ℕ). z.caller) same),
      (λ history m run absent. subst (λ (z : Entry ℕ × Pairs ℕ). IsHistory nat_eq (history ++ z.0 ∷ []) z.1) (λ i. (same i, without-absent m k absent i)) (remove_legal c k None history m run absent)),
    )
removal_ends c k (Some x) e is = absurd (none_some is)

pub removal_lookup : (c k : ℕ) → IsLookup (lookup_of c k (removal c k))
removal_lookup c k = record {
  by = λ found e is. (removal_ends c k found e is).0;
  legal = λ found e is. (removal_ends c k found e is).1;
}

pub removal_update : (c k x : ℕ) → IsUpdate (update_of c k (Some x) None (removed c k (Some x)))
removal_update c k x = record { by = refl; legal = remove_legal c k (Some x) }

-- A LOOK-UP THAT FINDS NONE
absence_ends : (c k : ℕ) (found : Option ℕ) (e : Entry ℕ) → absence c k found ≡ Some e → (e.caller ≡ c) × ((history : History) (m : Pairs ℕ) → IsHistory nat_eq history m → lookup m k ≡ found → IsHistory nat_eq (history ++ e ∷ []) m)
absence_ends c k None e is =
    let same : got (ask c k 0 0) None ≡ e = the_some is in (
      sym (ap (λ (z : Entry ℕ). z.caller) same),
      (λ history m run none. subst (λ (z : Entry ℕ). IsHistory nat_eq (history ++ z ∷ []) m) same (goes_on history m m c ((got (ask c k 0 0) None).operation) run (refl, ap old_value (sym none)) refl)),
    )
absence_ends c k (Some x) e is = absurd (none_some is)

pub absence_lookup : (c k : ℕ) → IsLookup (lookup_of c k (absence c k))
absence_lookup c k = record {
  by = λ found e is. (absence_ends c k found e is).0;
  legal = λ found e is. (absence_ends c k found e is).1;
}

-- AN EXCHANGE
swap_legal : (c k old : ℕ) (new found : Option ℕ) (r : Result (Option ℕ) (Option ℕ)) → exchange nat_eq found old new ≡ r → (history : History) (m : Pairs ℕ) → IsHistory nat_eq history m → lookup m k ≡ found
    → IsHistory nat_eq (history ++ swapped c k old new r ∷ []) (after_exchange m k r)
swap_legal c k old new found r by history m run is =
    let e : exchange nat_eq (lookup m k) old new ≡ r = ap (λ (z : Option ℕ). exchange nat_eq z old new) is ∙ by in
    goes_on history m (after_exchange m k r) c ((swapped c k old new r).operation) run (refl, ap exchanged (sym e)) (sym (ap (after_exchange m k) e))

swap_ends : (c k old : ℕ) (new found : Option ℕ) (e : Entry ℕ) (r : Result (Option ℕ) (Option ℕ)) → exchange nat_eq found old new ≡ r → failure (swapped c k old new) r ≡ Some e
    → (e.caller ≡ c) × ((history : History) (m : Pairs ℕ) → IsHistory nat_eq history m → lookup m k ≡ found → IsHistory nat_eq (history ++ e ∷ []) m)
swap_ends c k old new found e (Ok stored) by is = absurd (none_some is)
swap_ends c k old new found e (Err current) by is =
    let same : swapped c k old new (Err current) ≡ e = the_some is in (
      sym (ap (λ (z : Entry ℕ). z.caller) same),
      (λ history m run has. subst (λ (z : Entry ℕ). IsHistory nat_eq (history ++ z ∷ []) m) same (swap_legal c k old new found (Err current) by history m run has)),
    )

pub exchange_lookup : (x : Swap) → IsLookup (lookup_of x.caller x.key (exchange_fails x))
exchange_lookup x = record {
  by = λ found e is. (swap_ends x.caller x.key x.old x.new found e (exchange nat_eq found x.old x.new) refl is).0;
  legal = λ found e is. (swap_ends x.caller x.key x.old x.new found e (exchange nat_eq found x.old x.new) refl is).1;
}

pub succeeds_by : (old : ℕ) (new : Option ℕ) → exchange nat_eq (Some old) old new ≡ Ok new
succeeds_by old new = ap (λ (b : Bool). if b then Ok new else Err (Some old)) (eq-eqb old old refl)

pub exchange_update : (c k old : ℕ) (new : Option ℕ) → IsUpdate (update_of c k (Some old) new (swapped c k old new (Ok new)))
exchange_update c k old new = record { by = refl; legal = swap_legal c k old new (Some old) (Ok new) (succeeds_by old new) }
