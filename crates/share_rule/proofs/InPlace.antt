-- What work under the lock may do, and what its caller knows after it.
use Rattle.std.proofs.Common.{◌≡◌, ℕ, Bool, List, [], ◌∷◌, refl, sym, ap, ◌∙◌, subst}
use Rattle.std.specs.Prelude.{Option, Some, None}
use Rattle.atomic_table.specs.Table.{Me, rest}
use Rattle.spec_map.specs.Call.{Operation}
use Rattle.spec_map.specs.Map.{Pairs}
use Rattle.share_rule.specs.inner.Hold.{StepsBy, HeldBy}
use Rattle.share_rule.specs.inner.Rule.{Matches}
use Rattle.share_rule.specs.inner.SeatView.{SeatView}
use Rattle.share_rule.specs.inner.Steps.{IsIdle, MayRelease, Released, Taken, Won, at_of, found_of, number_of, numbered, operations_of_found, with_number}
use Rattle.share_rule.proofs.Holds.{keeps_same, quiet_then, all_may, all_then}
use Rattle.share_rule.proofs.Moves.{has_value, taken_of}

module _ {T N S : Type 0} (same : T → T → Bool) (content : S → Pairs T → Type 0) (place : S → ℕ → Option N) where
  abbrev V : Type 0
  V = Me (Option S) (SeatView T N S)

  none_else : (m m1 : V) → IsIdle m → Won same content place m m1 → rest m1.1 ≡ []
  none_else m m1 idle won = ap (λ (l : List (ℕ × Option S)). rest l) (has_value same content place m m1 idle won).1

  -- what was in the slot of a lock that was won was taken with it
  pub taken_in : (m m1 : V) (v : Option S) (x : S) → IsIdle m → Won same content place m m1 → m1.1 ≡ (0, v) ∷ rest m1.1 → v ≡ Some x → Taken same content place m x (m1.0, (0, None) ∷ [])
  taken_in m m1 v x idle won held is = taken_of same content place m m1 (m1.0, (0, None) ∷ []) x idle won (held ∙ (λ i. (0, is i) ∷ none_else m m1 idle won i)) refl

  -- the seat has that slot
  pub slot_in : (m m1 : V) → IsIdle m → Won same content place m m1 → (old : Option S) × (m1.1 ≡ (0, old) ∷ rest m1.1)
  slot_in m m1 idle won =
      let has = has_value same content place m m1 idle won in
      (Some has.0, has.1 ∙ ap (λ (l : List (ℕ × Option S)). let w : List (ℕ × Option S) = (0, Some has.0) ∷ rest l in w) (sym has.1))

  -- and what is put there is all that the seat has then
  pub left_in : (m m1 : V) (y : S) → IsIdle m → Won same content place m m1 → ◌≡◌ {A = List (ℕ × Option S)} ((0, Some y) ∷ rest m1.1) ((0, Some y) ∷ [])
  left_in m m1 y idle won = λ i. (0, Some y) ∷ none_else m m1 idle won i

  abbrev pub Goes : List (Operation ℕ T T) → S → S → Type 0
  Goes operations x y = (c : Pairs T) → content x c → (d : Pairs T) × content y d × StepsBy same operations c d

  module _ (m m1 : V) (x y : S) (number : Option ℕ) (t : Taken same content place m x m1) (is : number ≡ number_of (at_of m.0)) (others : (k : ℕ) → place y k ≡ place x k) where
    held_may : (operations : List (Operation ℕ T T)) → Goes operations x y → MayRelease place operations number same content m1 y
    held_may operations goes = all_may same content place m m1 x y number operations t goes (keeps_same same content place (at_of m.0) x y number is others)

    still : (at : Option (ℕ × N)) → Matches (place x) at → numbered (place y) (number_of at) ≡ at
    still None e = refl
    still (Some (i, p)) e = ap (with_number i) (others i ∙ e)

    kept : numbered (place y) number ≡ at_of m.0
    kept = ap (λ (w : Option ℕ). numbered (place y) w) is ∙ still (at_of m.0) t.matches

    held_then : (m2 : V) (operations : List (Operation ℕ T T)) → Goes operations x y → Released place operations number m1 y m2 → HeldBy same operations m m2
    held_then m2 [] goes r = let q = quiet_then same content place m m1 m2 x y number t r in (q.0, q.1 ∙ kept)
    held_then m2 (first ∷ later) goes r = let q = all_then same content place m m1 m2 x y number first later t goes r in (q.0, q.1 ∙ kept)

    -- the same, where the operations are by what was found
    found_is : found_of m1.0 ≡ Some x
    found_is = ap (λ (z : V). found_of z.0) t.is

    pub found_may : (made : S → List (Operation ℕ T T)) → Goes (made x) x y → MayRelease place (operations_of_found made (found_of m1.0)) number same content m1 y
    found_may made goes = subst (λ (w : Option S). MayRelease place (operations_of_found made w) number same content m1 y) (sym found_is) (held_may (made x) goes)

    pub found_then : (m2 : V) (made : S → List (Operation ℕ T T)) → Goes (made x) x y → Released place (operations_of_found made (found_of m1.0)) number m1 y m2 → HeldBy same (made x) m m2
    found_then m2 made goes r = held_then m2 (made x) goes (subst (λ (w : Option S). Released place (operations_of_found made w) number m1 y m2) found_is r)
