-- How a map of owners goes on by a look for a pair, and by a pop, and what is known after it.
use Rattle.std.proofs.Common.{◌≡◌, ℕ, Bool, ◌^◌, List, [], ◌∷◌, refl, sym, ap, subst}
use Rattle.std.specs.Prelude.{Option, Some, None, Result, Ok, Err, IfOk, OnErr}
use Rattle.atomic_table.specs.Seated.{TableId}
use Rattle.atomic_table.specs.Table.{Me}
use Rattle.share_guards.specs.Many.{owned_pair, popping_owned}
use Rattle.share_guards.specs.Operations.{returned}
use Rattle.share_guards.specs.inner.Trying.{finding}
use Rattle.share_rule.specs.Known.{MadeCall, MadeCalls}
use Rattle.share_rule.specs.inner.Hold.{HeldBy, StepsBy}
use Rattle.share_rule.specs.inner.SeatView.{SeatView}
use Rattle.share_rule.specs.inner.Steps.{known_of}
use Rattle.spec_map.proofs.NearLaws.{first_at, last_at}
use Rattle.spec_map.specs.Call.{Near, Operation, first, last, nearest, found, old_value, remove}
use Rattle.spec_map.specs.Legal.{IsLegal}
use Rattle.spec_map.specs.Map.{Pairs, IsMap, lookup}
use Rattle.spec_map.specs.Near.{first_of, last_of, pair_near, without_pair}
use Rattle.spec_map.specs.Refusal.{never}

module _ {T : Type 0} (same : T → T → Bool) (place : Near ℕ) (p q : Pairs T) where
  legal : (o : Option (ℕ × T)) → pair_near p place ≡ o → q ≡ without_pair p o → ((e : ℕ × T) → o ≡ Some e → lookup p e.0 ≡ Some e.1) → IsLegal same never p (popping_owned place o) q
  legal None is on stored = ((refl, ap (λ (o : Option (ℕ × T)). found o) (sym is)), on)
  legal (Some e) is on stored =
      ((refl, ap (λ (o : Option (ℕ × T)). found o) (sym is)), ((refl, ap (λ (o : Option T). old_value o) (sym (stored e refl))), on))

  popped : (r : Option (ℕ × T)) → r ≡ pair_near p place → q ≡ without_pair p (pair_near p place) → ((e : ℕ × T) → pair_near p place ≡ Some e → lookup p e.0 ≡ Some e.1) → IsLegal same never p (popping_owned place r) q
  popped r is on stored = subst (λ (o : Option (ℕ × T)). IsLegal same never p (popping_owned place o) q) (sym is) (legal (pair_near p place) refl on stored)

module _ {T S : Type 0} (same : T → T → Bool) (content : S → Pairs T → Type 0) where
  abbrev Goes : List (Operation ℕ T T) → S → S → Type 0
  Goes operations x y = (c : Pairs T) → content x c → (d : Pairs T) × content y d × StepsBy same operations c d

  module _ (x : S) (p : Pairs T) (only : (m : Pairs T) → content x m → m ≡ p) where
    goes_by : (operations : List (Operation ℕ T T)) (y : S) (q : Pairs T) → content y q → IsLegal same never p operations q → Goes operations x y
    goes_by operations y q has on c h = (q, has, subst (λ (z : Pairs T). IsLegal same never z operations q) (sym (only c h)) on)

    module _ {P : Type 0} (owned : P → T) where
      pub find_goes : {E : Type 0} (place : Near ℕ) (r : Result (Option (ℕ × P)) E) → content x p → IfOk r (λ pair. owned_pair owned pair ≡ pair_near p place) → Goes (finding owned place r) x x
      find_goes {E} place (Ok pair) has is =
          goes_by (finding {E = E} owned place (Ok pair)) x p has ((refl, ap (λ (o : Option (ℕ × T)). found o) is), refl)
      find_goes place (Err e) has is = goes_by [] x p has refl

      module _ (y : S) (q : Pairs T) (r : Option (ℕ × P)) (ordered : IsMap p) (has : content y q) where
        pub first_goes : owned_pair owned r ≡ first_of p → q ≡ without_pair p (first_of p) → Goes (popping_owned first (owned_pair owned r)) x y
        first_goes is on =
            goes_by (popping_owned first (owned_pair owned r)) y q has (popped same first p q (owned_pair owned r) is on (λ e at. (first_at 0 (2 ^ 64) p e ordered at).stored))

        pub last_goes : owned_pair owned r ≡ last_of p → q ≡ without_pair p (last_of p) → Goes (popping_owned last (owned_pair owned r)) x y
        last_goes is on =
            goes_by (popping_owned last (owned_pair owned r)) y q has (popped same last p q (owned_pair owned r) is on (λ e at. (last_at 0 (2 ^ 64) p e ordered at).stored))

-- after a hold, of a map whose values are compared so
module _ {T N S : Type 0} (t t' : TableId) (m n : Me (Option S) (SeatView T N S)) (is : t' ≡ t) (same now : T → T → Bool) (compare : same ≡ now) where
  calls : (one : Operation ℕ T T) (later : List (Operation ℕ T T)) → HeldBy same (one ∷ later) m n → MadeCalls now (known_of t m) (one ∷ later) (known_of t' n)
  calls one later h =
      let k = (subst (λ (s : T → T → Bool). HeldBy s (one ∷ later) m n) compare h).0 in
      record { between = k.between; table = is; caller = k.caller; legal = k.legal; seen = k.seen; own = k.own }

  module _ {P E : Type 0} (owned : P → T) (place : Near ℕ) where
    pub found_made : (r : Result (Option (ℕ × P)) E) → HeldBy same (finding owned place r) m n
        → IfOk r (λ pair. MadeCall now (known_of t m) (returned (nearest place) (found (owned_pair owned pair))) (known_of t' n))
    found_made (Ok pair) h =
        let k = calls (returned (nearest place) (found (owned_pair owned pair))) [] h in
        record { between = k.between; table = k.table; caller = k.caller; legal = k.legal; seen = k.seen; own = k.own }
    found_made (Err e) h = tt

    pub found_still : (r : Result (Option (ℕ × P)) E) → HeldBy same (finding owned place r) m n → OnErr r (known_of t' n ≡ known_of t m)
    found_still (Ok pair) h = tt
    found_still (Err e) h = λ i. record { table = is i; caller = h.0.caller i; seen = h.0.seen i }

  pub popped_made : (place : Near ℕ) (o : Option (ℕ × T)) → HeldBy same (popping_owned place o) m n → MadeCalls now (known_of t m) (popping_owned place o) (known_of t' n)
  popped_made place None h = calls (returned (nearest place) (found None)) [] h
  popped_made place (Some pair) h = calls (returned (nearest place) (found (Some pair))) (returned (remove pair.0) (old_value (Some pair.1)) ∷ []) h
