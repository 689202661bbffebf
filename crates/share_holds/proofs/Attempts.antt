-- What the events of a call, one after another, leave.
use Rattle.std.proofs.Common.{◌≡◌, ◌≢◌, ℕ, Bool, true, false, List, [], ◌∷◌, ◌⊎◌, inl, inr, sym, refl, ◌∙◌, subst}
use Rattle.std.specs.List.{FoldsTo}
use Rattle.std.specs.Prelude.{Option, Some}
use Rattle.atomic_table.specs.Table.{Me}
use Rattle.share_backend.specs.Stages.{Follows, TakesAnswer, operation_by}
use Rattle.share_backend.specs.declared.lent.CallStage.{CallStage}
use Rattle.share_backend.specs.declared.lent.CallStage.TheVariants.{Ready}
use Rattle.share_backend.specs.Changing.{reply_in}
use Rattle.share_backend.specs.declared.change.Change.{Change}
use Rattle.share_state.specs.Booking.{Books}
use Rattle.share_holds.specs.Closures.{IsLastCall, Reaches}
use Rattle.share_holds.specs.declared.tried.Tried.{Tried}
use Rattle.share_holds.specs.declared.tried.Tried.TheVariants.{Replied, Refused as Rejected, Again}
use Rattle.share_holds.specs.inner.Events.{KnowsOf, AfterLast, WasCalled, Answered, Attempted, is_last}
use Rattle.share_rule.specs.inner.SeatView.{SeatView}
use Rattle.share_rule.specs.inner.Steps.{SeesNoMore, at_of}
use Rattle.share_rule.proofs.Holds.{sees_no_more_twice, made_later}
use Rattle.spec_olc.specs.Calls.{Outline, asked_of}
use Rattle.spec_olc.specs.Meaning.{in_some, op_of, meant_reply, outcome_of}
use Rattle.spec_olc.specs.declared.types.Asking.{Asking}
use Rattle.spec_olc.specs.declared.types.Asking.TheVariants.{Fresh, Wants, Given}
use Rattle.spec_olc.specs.declared.types.Kind.{Kind}
use Rattle.spec_olc.specs.declared.types.Kind.TheVariants as kind
use Rattle.spec_olc.specs.declared.types.Op.{Op}
use Rattle.spec_olc.specs.declared.types.Outcome.{Outcome}
use Rattle.spec_olc.specs.declared.types.Outcome.TheVariants.{Going, Pair, Done, Unknown}
use Rattle.spec_olc.specs.declared.types.Reply.{Reply}

module _ {T S : Type 0} where
  pub knows_twice : (m m1 m2 : Me (Option S) (SeatView T (CallStage T) S)) (at : Option (ℕ × CallStage T)) → SeesNoMore m m1 → KnowsOf at m1 m2 → KnowsOf at m m2
  knows_twice m m1 m2 at k l = record { quiet = sees_no_more_twice m m1 m2 k l.quiet; at_is = l.at_is }

  -- the number stays
  pub knows_still : (m m1 m2 : Me (Option S) (SeatView T (CallStage T) S)) (at : Option (ℕ × CallStage T)) → KnowsOf at m m1 → KnowsOf (at_of m1.0) m1 m2 → KnowsOf at m m2
  knows_still m m1 m2 at k l = record { quiet = sees_no_more_twice m m1 m2 k.quiet l.quiet; at_is = l.at_is ∙ k.at_is }

  -- A CALL THAT IS OVER goes on, or ends
  module _ {P : Type 0} (meaning : P → T) (id : ℕ) (o : Outline) (p : CallStage T) (m m' : Me (Option S) (SeatView T (CallStage T) S)) where
    pub ended_by : (r : Outcome P) → is_last r ≡ true → AfterLast id o p (outcome_of meaning r) m m' → KnowsOf (Some (id, Ready)) m m'
    ended_by Done is t = t
    ended_by Unknown is t = t
    ended_by _ is t = absurd (let clash = is in cc)

    pub going_by : (r : Outcome P) → is_last r ≡ false → AfterLast id o p (outcome_of meaning r) m m' → KnowsOf (Some (id, p)) m m'
    going_by Going is t = t
    going_by (Pair key value) is t = t.1
    going_by Done is t = absurd (let clash = is in cc)
    going_by Unknown is t = absurd (let clash = is in cc)
    going_by _ is t = absurd t

-- what is booked after an event that had this outcome
pub booked_in : {P S : Type 0} (f : Change → S → S) (op : Op P) (r q : Outcome P) (s t : S) → r ≡ q → Books f op (reply_in r) s t → Books f op (reply_in q) s t
booked_in f op r q s t is b = subst (λ (z : Outcome _). Books f op (reply_in z) s t) is b

is_answer : (k : Kind) → (k ≡ kind.Answer) ⊎ (k ≢ kind.Answer)
is_answer kind.Answer = inl refl
is_answer k = inr (λ e. absurd (let clash = e in cc))

-- WHAT IS KNOWN OF THE CLOSURE
module _ {P T F : Type 0} (meaning : P → T) (step : F → Option P → Option P → F → Type 0) (last : F) where
  abbrev Was : Asking T → Option P → Type 0
  Was s answer = WasCalled meaning step last s answer

  -- after an event that asks nothing, and to which the answer was handed
  still_called : (s : Asking T) (answer : Option P) (a : Option T) (t : Asking T) → a ≡ in_some meaning answer → Follows s a t → Was s answer → Was t answer
  still_called Fresh answer a t is f w =
      elim f [
        | inl e ↦ subst (λ (z : Asking T). Was z answer) (sym e) tt
        | inr (inl e) ↦ subst (λ (z : Asking T). Was z answer) (sym e) tt
        | inr (inr e) ↦ absurd e
      ]
  still_called (Wants old) answer a t is f w =
      elim f [
        | inl e ↦ subst (λ (z : Asking T). Was z answer) (sym e) tt
        | inr (inl e) ↦ subst (λ (z : Asking T). Was z answer) (sym e) w
        | inr (inr e) ↦ subst (λ (z : Asking T). Was z answer) (sym e) (answer, w, sym is)
      ]
  still_called (Given old given) answer a t is f w =
      elim f [
        | inl e ↦ subst (λ (z : Asking T). Was z answer) (sym e) tt
        | inr (inl e) ↦ subst (λ (z : Asking T). Was z answer) (sym e) w
        | inr (inr e) ↦ absurd e
      ]

  -- an event has taken it
  taken_called : (s : Asking T) (answer b : Option P) (a : Option T) (t : Asking T) → a ≡ in_some meaning answer → TakesAnswer s a t → Was s answer → Was t b
  taken_called Fresh answer b a t is f w = absurd f
  taken_called (Wants old) answer b a t is f w = subst (λ (z : Asking T). Was z b) (sym f) (answer, w, sym is)
  taken_called (Given old given) answer b a t is f w = absurd f

  -- and the answer is kept until then
  pub kept_called : (s : Asking T) (answer b : Option P) (a : Option T) (t : Asking T) (k : Kind) → a ≡ in_some meaning answer → Follows s a t → (k ≡ kind.Answer → TakesAnswer s a t) → (k ≢ kind.Answer → b ≡ answer) → Was s answer → Was t b
  kept_called s answer b a t k is f takes kept w =
      elim (is_answer k) [
        | inl e ↦ taken_called s answer b a t is (takes e) w
        | inr ne ↦ subst (λ (z : Option P). Was t z) (sym (kept ne)) (still_called s answer a t is f w)
      ]

  -- at the decision
  pub last_call_of : (s : Asking T) (answer : Option P) → Was s answer → IsLastCall meaning step last (asked_of s)
  last_call_of Fresh answer w = tt
  last_call_of (Wants old) answer w = tt
  last_call_of (Given old given) answer w = w

-- THE CALLS OF A CLOSURE, one after another
module _ {F A B : Type 0} (step : F → A → B → F → Type 0) where
  pub no_call : (f : F) → Reaches step f f
  no_call f = ([], refl)

  folds_on : (calls : List (A × B)) (f g h : F) → FoldsTo (λ (s : F) (call : A × B) (t : F). step s call.0 call.1 t) f calls g → Reaches step g h → Reaches step f h
  folds_on [] f g h is on = subst (λ (x : F). Reaches step x h) (sym is) on
  folds_on (call ∷ calls) f g h (next, called, later) on =
      let more = folds_on calls next g h later on in
      (call ∷ more.0, (next, called, more.1))

  pub calls_on : (f g h : F) → Reaches step f g → Reaches step g h → Reaches step f h
  calls_on f g h first then = folds_on first.0 f g h first.1 then

  pub one_call : (f : F) (old : A) (answer : B) (g h : F) → step f old answer g → Reaches step g h → Reaches step f h
  one_call f old answer g h called on = ((old, answer) ∷ on.0, (g, called, on.1))

-- HOW AN ATTEMPT ENDED, seen from before it
module _ {P T S F : Type 0} (same : T → T → Bool) (meaning : P → T) (step : F → Option P → Option P → F → Type 0) (last : F) (op : Op P) (m m1 m2 : Me (Option S) (SeatView T (CallStage T) S)) where
  pub answered_later : (reply : Reply P) → SeesNoMore m m1 → Answered meaning step last same op reply m1 m2 → Answered meaning step last same op reply m m2
  answered_later reply l a = record {
    asked = a.asked;
    made = made_later same m m1 m2 (operation_by (op_of meaning op) a.asked (meant_reply meaning reply)) l a.made;
    last_call = a.last_call;
  }

  pub attempt_later : (t : Tried P) → SeesNoMore m m1 → Attempted meaning step last same op t m1 m2 → Attempted meaning step last same op t m m2
  attempt_later (Replied reply) l a = answered_later reply l a
  attempt_later Rejected l a = sees_no_more_twice m m1 m2 l a
  attempt_later Again l a = sees_no_more_twice m m1 m2 l a

  pub replied_of : (t : Tried P) (reply : Reply P) → t ≡ Replied reply → Attempted meaning step last same op t m1 m2 → SeesNoMore m m1 → Answered meaning step last same op reply m m2
  replied_of t reply is a l = answered_later reply l (subst (λ (z : Tried P). Attempted meaning step last same op z m1 m2) is a)

  pub unanswered : (t : Tried P) → (t ≡ Rejected) ⊎ (t ≡ Again) → Attempted meaning step last same op t m1 m2 → SeesNoMore m m1 → SeesNoMore m m2
  unanswered t is a l =
      elim is [
        | inl e ↦ sees_no_more_twice m m1 m2 l (subst (λ (z : Tried P). Attempted meaning step last same op z m1 m2) e a)
        | inr e ↦ sees_no_more_twice m m1 m2 l (subst (λ (z : Tried P). Attempted meaning step last same op z m1 m2) e a)
      ]
