-- What closures were asked with stays current by each event.
use Rattle.std.proofs.Common.{◌≡◌, ℕ, Option, Some, IsSome, inl, inr, refl, sym, subst, ◌∙◌, arith}
use Rattle.std.proofs.lemmas.Bool.{cases_eq}
use Rattle.slab.specs.Slab.{Slab, get, with_value}
use Rattle.slab.proofs.SlabLemmas.{Updates-with_value}
use Rattle.share_tree.specs.declared.seat.Question.{Question}
use Rattle.share_tree.specs.declared.seat.CallSeat.{CallSeat}
use Rattle.share_tree.specs.declared.seat.CallSeat.TheVariants.{Ready, Fresh, Present, Always, Settled, Denied}
use Rattle.share_tree.specs.inner.Contents.{Contents}
use Rattle.share_tree.specs.inner.Current.{change_count, AreCurrent, CountsRise, AnswerHolds, IsCurrent}

some_is : {X : Type 0} (x y : X) → Some x ≡ Some y → x ≡ y
some_is x y e = cc

module _ {P M : Type 0} (meaning : P → M) (old new : Contents P) (on : CountsRise meaning old new) where
  holds_on : (q : Question P) → AnswerHolds meaning old q → AnswerHolds meaning new q
  holds_on q h =
      let past = h.past in
      let rise = on.rises q.key in
      record {
        past = omega (arith, past, rise);
        stored = λ same below.
            let still : change_count old.counts q.key ≡ change_count new.counts q.key = omega (arith, past, rise) in
            on.stays q.key still below ∙ h.stored (omega (arith, past, rise)) (omega (arith, still));
      }

  current_on : (seat : CallSeat P) → IsCurrent meaning old seat → IsCurrent meaning new seat
  current_on Ready h = tt
  current_on (Fresh k) h = tt
  current_on (Present q answer) h = holds_on q h
  current_on (Always other q answer) h = holds_on q h
  current_on (Settled o) h = tt
  current_on (Denied o) h = tt

  -- the seats are unchanged
  pub all_on : (seats : Slab (CallSeat P)) → AreCurrent meaning old seats → AreCurrent meaning new seats
  all_on seats all k seat there = current_on seat (all k seat there)

  -- one seat is replaced
  pub all_with : (seats : Slab (CallSeat P)) (id : ℕ) (seat next : CallSeat P) → get seats id ≡ Some seat → IsCurrent meaning new next
      → AreCurrent meaning old seats → AreCurrent meaning new (with_value seats id next)
  all_with seats id seat next here current all k s there =
      let up = Updates-with_value seats id next (subst (λ (x : Option (CallSeat P)). IsSome x) (sym here) refl) in
      elim (cases_eq k id) [
        | inl e ↦
            let is : next ≡ s = some_is next s (sym up.changed ∙ subst (λ (x : ℕ). get (with_value seats id next) x ≡ Some s) e there) in
            subst (λ (x : CallSeat P). IsCurrent meaning new x) is current
        | inr e ↦ current_on s (all k s (sym (up.others k e) ∙ there))
      ]
