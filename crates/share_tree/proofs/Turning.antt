-- How an event of a seat changes what is known of its number.
use Rattle.std.proofs.Common.{◌≡◌, ℕ, Option, Some, IsSome, refl, sym, subst, ap, ◌∙◌}
use Rattle.slab.specs.Slab.{Slab, get, with_value}
use Rattle.slab.proofs.SlabLemmas.{Updates-with_value}
use Rattle.share_backend.specs.Stages.{IsOf, Turns}
use Rattle.share_backend.specs.declared.lent.CallStage.{CallStage}
use Rattle.spec_olc.specs.Calls.{Outline}
use Rattle.spec_olc.specs.declared.types.Kind.{Kind}
use Rattle.spec_olc.specs.declared.types.Outcome.{Outcome}
use Rattle.share_tree.specs.Seats.{seat_place_in, seat_place_of, seat_stage_of}
use Rattle.share_tree.specs.declared.seat.CallSeat.{CallSeat}

some_is : {X : Type 0} (x y : X) → Some x ≡ Some y → x ≡ y
some_is x y e = cc

module _ {P M : Type 0} (meaning : P → M) (s : Slab (CallSeat P)) (id : ℕ) (seat : CallSeat P) (here : get s id ≡ Some seat) where
  -- a number's stage is its seat's
  stage_there : (p : CallStage M) → seat_place_in meaning s id ≡ Some p → seat_stage_of meaning seat ≡ p
  stage_there p is = some_is (seat_stage_of meaning seat) p (ap (seat_place_of meaning) (sym here) ∙ is)

  pub of_seat : (o : Outline) → ((p : CallStage M) × (seat_place_in meaning s id ≡ Some p) × IsOf o p) → IsOf o (seat_stage_of meaning seat)
  of_seat o h = subst (λ (p : CallStage M). IsOf o p) (sym (stage_there h.0 h.1)) h.2

  placed : (next : CallSeat P) → seat_place_in meaning (with_value s id next) id ≡ Some (seat_stage_of meaning next)
  placed next =
      ap (seat_place_of meaning) (Updates-with_value s id next (subst (λ (x : Option (CallSeat P)). IsSome x) (sym here) refl)).changed

  pub turned : (next : CallSeat P) (answer : Option M) (k l : Kind) (o u : Outcome M) (p : CallStage M) → l ≡ k → u ≡ o
      → Turns (seat_stage_of meaning seat) answer k (Some (seat_stage_of meaning next)) o → seat_place_in meaning s id ≡ Some p
      → Turns p answer l (seat_place_in meaning (with_value s id next) id) u
  turned next answer k l o u p kind outcome t is =
      let q = seat_place_in meaning (with_value s id next) id in
      subst (λ (x : Kind). Turns p answer x q u) (sym kind)
      (subst (λ (x : Outcome M). Turns p answer k q x) (sym outcome)
      (subst (λ (x : Option (CallStage M)). Turns p answer k x o) (sym (placed next))
      (subst (λ (x : CallStage M). Turns x answer k (Some (seat_stage_of meaning next)) o) (stage_there p is) t)))
