-- That a run is linearizable, by its trace alone: what the trace shows of a pending call is what is in flight.
use Rattle.std.proofs.Common.{◌≡◌, ◌≢◌, ℕ, ◌+◌, ◌^◌, Bool, true, false, List, [], ◌∷◌, ◌++◌, Option, Some, None, if◌then◌else◌, inl, inr, ◌⊎◌, refl, sym, subst, ap, ◌∙◌}
use Rattle.std.proofs.lemmas.Bool.Decides.{eqb_tells}
use Rattle.node_table.specs.Charge.{Charge}
use Rattle.spec_map.proofs.MapLaws.{lookup-put_same, lookup-put_other, lookup-without_same}
use Rattle.spec_map.specs.Map.{Pairs, IsMap, lookup, put}
use Rattle.spec_node.specs.TableNode.{TableNode}
use Rattle.spec_olc.proofs.Steps.{others_stay}
use Rattle.spec_olc.specs.Calls.{IsPoint, Outline, asked_of, key_of, outline_of}
use Rattle.spec_olc.specs.Content.{IsContent, IsCurrent, IsStoredAt}
use Rattle.spec_olc.specs.Kinds.{NextIs, CheckOutcome, ReadOutcome, AnswerOutcome, DoesAs, begun, refusal, refused, failed, not_locked, unlocked}
use Rattle.spec_olc.specs.Lists.{off}
use Rattle.spec_olc.specs.Orderly.{Course, TurnsBy}
use Rattle.spec_olc.specs.Reading.{GoesOn, LooksOn, MayGive, Remembered}
use Rattle.spec_olc.specs.Runs.{Transition, Happens, IsHistory, IsMachineRun, fresh, same_number, decided_at, decided_by, decided_in, events_in, lines_in}
use Rattle.spec_olc.specs.State.{State, CallState, Cleaning}
use Rattle.spec_olc.specs.declared.trace.Decision.{Decision}
use Rattle.spec_olc.specs.declared.trace.Line.{Line}
use Rattle.spec_olc.specs.declared.trace.Line.TheVariants.{Done as Made, Skipped}
use Rattle.spec_olc.specs.declared.types.Asking.{Asking}
use Rattle.spec_olc.specs.declared.types.Asking.TheVariants.{Fresh, Wants, Given}
use Rattle.spec_olc.specs.declared.types.Env.{Env}
use Rattle.spec_olc.specs.declared.types.Event.{Event}
use Rattle.spec_olc.specs.declared.types.Event.TheVariants.{Start, Step, Reclaim}
use Rattle.spec_olc.specs.declared.types.Kind.{Kind}
use Rattle.spec_olc.specs.declared.types.Kind.TheVariants as kind
use Rattle.spec_olc.specs.declared.types.Op.{Op}
use Rattle.spec_olc.specs.declared.types.Op.TheVariants.{Get, Insert, Remove, ComputeIfPresent, ComputeOrInsert, CompareExchange, Range}
use Rattle.spec_olc.specs.declared.types.Outcome.{Outcome}
use Rattle.spec_olc.specs.declared.types.Outcome.TheVariants.{Going, Ask, Pair, Decided, Refused, Done, Unknown}
use Rattle.spec_olc.specs.declared.types.Progress.{Progress}
use Rattle.spec_olc.specs.declared.types.Progress.TheVariants as progress
use Rattle.spec_olc.specs.declared.types.Reply.{Reply}
use Rattle.spec_olc.specs.declared.types.Report.{Report}
use Rattle.spec_olc.specs.declared.types.Seen.{Seen}
use Rattle.spec_olc.specs.Linearizable.{PendingCall, just_started, none_pending, with_pending, answered, after_step, MayReport, IsLast, Decides, Linearizes, IsLinearizable}
use Rattle.spec_olc.proofs.Ordering.{course_of, decided_open, refused_open}
use Rattle.olc_replay.proofs.Orders.{IsOf, Matches, step_turns, by_ok}
use Rattle.olc_state.proofs.Contents.{current_there}
use Rattle.olc_state.proofs.Options.{some_same}
use Rattle.olc_state.proofs.Replies.{key_is}
use Rattle.olc_replay.proofs.Standing.{fresh_content}

-- what a call in flight has of its closure is the last that the trace has, unless it went back to the root
abbrev Heard : Asking ℕ → Asking ℕ → Type 0
Heard last asking = (asking ≡ Fresh) ⊎ (asking ≡ last)

abbrev HeardIn : Option PendingCall → Asking ℕ → Type 0
HeardIn None asking = Unit {0}
HeardIn (Some p) asking = Heard p.asking asking

abbrev HeardBy : Option PendingCall → Option (CallState ℕ) → Type 0
HeardBy p None = Unit {0}
HeardBy p (Some call) = HeardIn p call.asking

-- what is in flight under a number is what is pending
abbrev Fits : Option PendingCall → Option (CallState ℕ) → Type 0
Fits p f = Matches (course_of p) f × HeardBy p f

abbrev AllFit : (ℕ → Option PendingCall) → State ℕ → Type 0
AllFit calls s = (id : ℕ) → Fits (calls id) (lookup s.calls id)

set_fits : (Is : Option PendingCall → Option (CallState ℕ) → Type 0) (calls : ℕ → Option PendingCall) (i : ℕ) (next : Option PendingCall) (new : State ℕ) → Is next (lookup new.calls i)
    → ((id : ℕ) → id ≢ i → Is (calls id) (lookup new.calls id)) → (id : ℕ) → Is (with_pending calls i next id) (lookup new.calls id)
set_fits Is calls i next new here others id =
    elim (eqb_tells id i) [
      | inl at ↦ rw at.0 (subst (λ (n : ℕ). Is next (lookup new.calls n)) (sym at.1) here)
      | inr off ↦ rw off.0 (others id off.1)
    ]

abbrev is_decided : Outcome ℕ → Bool
is_decided (Decided reply) = true
is_decided _ = false

true_false : true ≡ false → ⊥
true_false e = cc

wants_fresh : (old : Option ℕ) → Wants old ≡ Fresh → ⊥
wants_fresh old e = cc

given_fresh : (old answer : Option ℕ) → Given old answer ≡ Fresh → ⊥
given_fresh old answer e = cc

-- an outcome that isn't a reply
other : {X : Type 0} (reply : Reply ℕ) (out : Outcome ℕ) → is_decided out ≡ false → Decided reply ≡ out → X
other reply out is e = absurd (true_false (ap is_decided e ∙ is))

-- whether it asks or gives a pair
abbrev is_message : Outcome ℕ → Bool
is_message (Ask old) = true
is_message (Pair key value) = true
is_message _ = false

silent : {X : Type 0} (message out : Outcome ℕ) → is_message message ≡ true → is_message out ≡ false → message ≡ out → X
silent message out loud is e = absurd (true_false (sym loud ∙ ap is_message e ∙ is))

silent_refusal : (p : Progress) → is_message (refusal p) ≡ false
silent_refusal progress.Open = refl
silent_refusal progress.Decided = refl
silent_refusal progress.Refused = refl

no_refusal : (p : Progress) → is_decided (refusal p) ≡ false
no_refusal progress.Open = refl
no_refusal progress.Decided = refl
no_refusal progress.Refused = refl

module _ (old new : State ℕ) (id : ℕ) (call : CallState ℕ) (env : Env ℕ) (report : Report) where
  -- the call still has its payloads
  abbrev HasOp : Type 0
  HasOp = (op : Op ℕ) × (call.op ≡ Some op)

  read_decides : (reply : Reply ℕ) (node : TableNode ℕ) (whole : Bool) → ReadOutcome (Unit {0}) same_number old new id call env report (Decided reply) node whole (Decided reply) → HasOp
  read_decides reply node true d = absurd d
  read_decides reply node false d = absurd d

  -- what decides is a Check that passes or a Write
  decides : (reply : Reply ℕ) (k : Kind) → DoesAs (Unit {0}) same_number old new id call env report (Decided reply) k → HasOp
  decides reply kind.Start d = absurd d
  decides reply kind.Take d = other reply _ refl d.1.reports.1
  decides reply kind.Check d = by_ok report.ok (λ good. let local = (d.1.passes good).0 in (local.op, local.op_is)) (λ bad. other reply _ refl (d.1.fails bad).0)
  decides reply kind.Read d = read_decides reply d.1.knows.node.node d.1.whole d.1.sees
  decides reply kind.Upgrade d = other reply _ refl d.1.reports.1
  decides reply kind.Make (t, may, inl d) = other reply _ refl d.reports.1
  decides reply kind.Make (t, may, inr d) = other reply _ (no_refusal call.progress) d.reports.1
  decides reply kind.Write d = (d.1.reports.op, d.1.reports.op_is)
  decides reply kind.Obsolete d = other reply _ refl d.reports.1
  decides reply kind.Unlock d = other reply _ refl d.reports.1
  decides reply kind.Answer d = absurd d.1.hears
  decides reply kind.Finish d = other reply _ refl d.reports.1
  decides reply kind.Reclaim d = absurd d

  -- an open call asks with the current value of its key
  abbrev Asks : Option ℕ → Type 0
  Asks asked = (call.progress ≡ progress.Open) × IsCurrent old (key_of call.outline) asked

  read_asks : (asked : Option ℕ) (node : TableNode ℕ) (whole : Bool) → ReadOutcome (Unit {0}) same_number old new id call env report (Ask asked) node whole (Ask asked) → Asks asked
  read_asks asked node true d = absurd d
  read_asks asked node false d = absurd d

  -- what asks is a Check that passes
  asks : (asked : Option ℕ) (k : Kind) → DoesAs (Unit {0}) same_number old new id call env report (Ask asked) k → Asks asked
  asks asked kind.Start d = absurd d
  asks asked kind.Take d = silent (Ask asked) _ refl refl d.1.reports.1
  asks asked kind.Check d = by_ok report.ok (λ good. let found = d.1.passes good in (found.0.undecided, found.1)) (λ bad. silent (Ask asked) _ refl refl (d.1.fails bad).0)
  asks asked kind.Read d = read_asks asked d.1.knows.node.node d.1.whole d.1.sees
  asks asked kind.Upgrade d = silent (Ask asked) _ refl refl d.1.reports.1
  asks asked kind.Make (t, may, inl d) = silent (Ask asked) _ refl refl d.reports.1
  asks asked kind.Make (t, may, inr d) = silent (Ask asked) _ refl (silent_refusal call.progress) d.reports.1
  asks asked kind.Write d = absurd d.1.reports
  asks asked kind.Obsolete d = silent (Ask asked) _ refl refl d.reports.1
  asks asked kind.Unlock d = silent (Ask asked) _ refl refl d.reports.1
  asks asked kind.Answer d = absurd d.1.hears
  asks asked kind.Finish d = silent (Ask asked) _ refl refl d.reports.1
  asks asked kind.Reclaim d = absurd d

  -- a range gives a pair that is stored
  abbrev Gave : ℕ → ℕ → Type 0
  Gave key value = MayGive call.outline call.given key × IsStoredAt old key value

  read_pairs : (key value : ℕ) (node : TableNode ℕ) (whole : Bool) → ReadOutcome (Unit {0}) same_number old new id call env report (Pair key value) node whole (Pair key value) → Gave key value
  read_pairs key value node true d = absurd d
  read_pairs key value node false d = absurd d

  -- what gives a pair is a Check that passes
  pairs : (key value : ℕ) (k : Kind) → DoesAs (Unit {0}) same_number old new id call env report (Pair key value) k → Gave key value
  pairs key value kind.Start d = absurd d
  pairs key value kind.Take d = silent (Pair key value) _ refl refl d.1.reports.1
  pairs key value kind.Check d = by_ok report.ok (λ good. let found = d.1.passes good in (found.may, found.at_key)) (λ bad. silent (Pair key value) _ refl refl (d.1.fails bad).0)
  pairs key value kind.Read d = read_pairs key value d.1.knows.node.node d.1.whole d.1.sees
  pairs key value kind.Upgrade d = silent (Pair key value) _ refl refl d.1.reports.1
  pairs key value kind.Make (t, may, inl d) = silent (Pair key value) _ refl refl d.reports.1
  pairs key value kind.Make (t, may, inr d) = silent (Pair key value) _ refl (silent_refusal call.progress) d.reports.1
  pairs key value kind.Write d = absurd d.1.reports
  pairs key value kind.Obsolete d = silent (Pair key value) _ refl refl d.reports.1
  pairs key value kind.Unlock d = silent (Pair key value) _ refl refl d.reports.1
  pairs key value kind.Answer d = absurd d.1.hears
  pairs key value kind.Finish d = silent (Pair key value) _ refl refl d.reports.1
  pairs key value kind.Reclaim d = absurd d

-- an event leaves what its call has of its closure, or forgets it
abbrev Quiet : Asking ℕ → Asking ℕ → Type 0
Quiet asking next = (next ≡ asking) ⊎ (next ≡ Fresh)

quiet_heard : (last asking next : Asking ℕ) → Heard last asking → Quiet asking next → Heard last next
quiet_heard last asking next h (inr e) = inl e
quiet_heard last asking next (inl f) (inl e) = inl (e ∙ f)
quiet_heard last asking next (inr f) (inl e) = inr (e ∙ f)

fresh_in : (p : Option PendingCall) (asking : Asking ℕ) → asking ≡ Fresh → HeardIn p asking
fresh_in None asking e = tt
fresh_in (Some p) asking e = inl e

goes_quiet : (call next planned : CallState ℕ) → Quiet call.asking next.asking → GoesOn next planned → Quiet call.asking planned.asking
goes_quiet call next planned quiet (inl e) = subst (λ (f : CallState ℕ). Quiet call.asking f.asking) (sym e) quiet
goes_quiet call next planned quiet (inr e) = inr (ap (λ (f : CallState ℕ). f.asking) e)

looks_quiet : (outline : Outline) (s : State ℕ) (call : CallState ℕ) (here : Remembered s call) (planned : CallState ℕ) → LooksOn outline s call here planned → Quiet call.asking planned.asking
looks_quiet (Range a b n) s call here planned h = goes_quiet call (record call { cursor = h.cursor; reach = h.reach }) planned (inl refl) h.next_is
looks_quiet outline s call here planned h = elim h [ inl on ↦ inl (ap (λ (f : CallState ℕ). f.asking) on) | inr over ↦ inl (ap (λ (f : CallState ℕ). f.asking) over.0) ]

failed_fresh : (p : Progress) (call : CallState ℕ) → (failed p call).asking ≡ Fresh
failed_fresh progress.Open call = refl
failed_fresh progress.Decided call = refl
failed_fresh progress.Refused call = refl

not_locked_quiet : (p : Progress) (held : List ℕ) (call : CallState ℕ) → Quiet call.asking (not_locked p held call).asking
not_locked_quiet progress.Open [] call = inr refl
not_locked_quiet progress.Open (slot ∷ held) call = inl refl
not_locked_quiet progress.Decided held call = inr refl
not_locked_quiet progress.Refused held call = inr refl

unlocked_quiet : (p : Progress) (cleaning : Option Cleaning) (held : List ℕ) (call : CallState ℕ) → Quiet call.asking (unlocked p cleaning held call).asking
unlocked_quiet progress.Open cleaning held call = inr refl
unlocked_quiet progress.Decided None held call = inl refl
unlocked_quiet progress.Refused None held call = inl refl
unlocked_quiet progress.Decided (Some c) [] call = inr refl
unlocked_quiet progress.Refused (Some c) [] call = inr refl
unlocked_quiet progress.Decided (Some c) (slot ∷ held) call = inl refl
unlocked_quiet progress.Refused (Some c) (slot ∷ held) call = inl refl

module _ (old new : State ℕ) (id : ℕ) (call : CallState ℕ) (env : Env ℕ) (report : Report) (out : Outcome ℕ) (p : PendingCall) (was : Heard p.asking call.asking) where
  abbrev Plans : State ℕ → CallState ℕ → Type 0
  Plans base planned = NextIs (Unit {0}) same_number old new id call env report out base planned

  planned_heard : (next : Option PendingCall) (base : State ℕ) (planned : CallState ℕ) → Plans base planned → HeardIn next planned.asking → HeardBy next (lookup new.calls id)
  planned_heard next base planned b h =
      subst (λ (f : Option (CallState ℕ)). HeardBy next f) (sym (ap (λ (s : State ℕ). lookup s.calls id) b.after ∙ lookup-put_same base.calls id b.next))
      (subst (λ (a : Asking ℕ). HeardIn next a) (sym (ap (λ (f : CallState ℕ). f.asking) b.is)) h)

  -- an event that asks nothing and is no Answer
  quietly : (k : Kind) → answered k env.answer p.asking ≡ p.asking → (o : Outcome ℕ) → o ≡ Going → (base : State ℕ) (planned : CallState ℕ) → Plans base planned → Quiet call.asking planned.asking
      → HeardBy (after_step k env.answer o p) (lookup new.calls id)
  quietly k same o e base planned b quiet =
      subst (λ (x : Outcome ℕ). HeardBy (after_step k env.answer x p) (lookup new.calls id)) (sym e)
      (planned_heard (after_step k env.answer Going p) base planned b
      (subst (λ (a : Asking ℕ). Heard a planned.asking) (sym same) (quiet_heard p.asking call.asking planned.asking was quiet)))

  freshly : (k : Kind) (o : Outcome ℕ) (base : State ℕ) (planned : CallState ℕ) → Plans base planned → planned.asking ≡ Fresh → HeardBy (after_step k env.answer o p) (lookup new.calls id)
  freshly k o base planned b e = planned_heard (after_step k env.answer o p) base planned b (fresh_in (after_step k env.answer o p) planned.asking e)

  found_heard : (o : Outcome ℕ) (here : Remembered old call) (planned : CallState ℕ) → Plans old planned → CheckOutcome (Unit {0}) same_number old call here planned o → HeardBy (after_step kind.Check env.answer o p) (lookup new.calls id)
  found_heard Going here planned b h = quietly kind.Check refl Going refl old planned b (looks_quiet call.outline old call here planned h)
  found_heard (Ask asked) here planned b h = planned_heard (after_step kind.Check env.answer (Ask asked) p) old planned b (inr (ap (λ (f : CallState ℕ). f.asking) h.2))
  found_heard (Pair key value) here planned b h =
      planned_heard (after_step kind.Check env.answer (Pair key value) p) old planned b
      (quiet_heard p.asking call.asking planned.asking was (goes_quiet call (record call { cursor = key + 1; reach = key + 1; given = call.given + 1 }) planned (inl refl) h.next_is))
  found_heard (Decided reply) here planned b h = freshly kind.Check (Decided reply) old planned b (ap (λ (f : CallState ℕ). f.asking) h.2)
  found_heard Refused here planned b h = absurd h
  found_heard Done here planned b h = absurd h
  found_heard Unknown here planned b h = absurd h

  saw_heard : (node : TableNode ℕ) (whole : Bool) (o : Outcome ℕ) → ReadOutcome (Unit {0}) same_number old new id call env report out node whole o → HeardBy (after_step kind.Read env.answer o p) (lookup new.calls id)
  saw_heard node true Going d = quietly kind.Read refl Going refl old _ d.2 (inl refl)
  saw_heard node true Refused d = freshly kind.Read Refused old _ d.3.becomes refl
  saw_heard node false Going d = quietly kind.Read refl Going refl old _ d (inl refl)
  saw_heard node whole _ d = absurd d

  -- the question that was open is the last one
  wanted_last : (asked : Option ℕ) → call.asking ≡ Wants asked → Heard p.asking call.asking → Wants asked ≡ p.asking
  wanted_last asked wanted (inl e) = absurd (wants_fresh asked (sym wanted ∙ e))
  wanted_last asked wanted (inr e) = sym wanted ∙ e

  answer_heard : (asked : Option ℕ) (o : Outcome ℕ) → call.asking ≡ Wants asked → AnswerOutcome (Unit {0}) same_number old new id call env report out asked o → HeardBy (after_step kind.Answer env.answer o p) (lookup new.calls id)
  answer_heard asked Going wanted d =
      planned_heard (after_step kind.Answer env.answer Going p) old _ d
      (inr (subst (λ (a : Asking ℕ). Given asked env.answer ≡ answered kind.Answer env.answer a) (wanted_last asked wanted was) refl))
  answer_heard asked Refused wanted d = freshly kind.Answer Refused old _ d.2.becomes refl
  answer_heard asked _ wanted d = absurd d

  made_heard : (pr : Progress) (o : Outcome ℕ) → o ≡ refusal pr → (base : State ℕ) → Plans base (refused pr (record call { made = [] })) → HeardBy (after_step kind.Make env.answer o p) (lookup new.calls id)
  made_heard progress.Open o e base b = freshly kind.Make o base _ b refl
  made_heard progress.Decided o e base b = quietly kind.Make refl o e base _ b (inl refl)
  made_heard progress.Refused o e base b = quietly kind.Make refl o e base _ b (inl refl)

  step_heard : IsMap old.calls → (k : Kind) → DoesAs (Unit {0}) same_number old new id call env report out k → HeardBy (after_step k env.answer out p) (lookup new.calls id)
  step_heard map kind.Start d = absurd d
  step_heard map kind.Take d = quietly kind.Take refl out d.1.reports.1 old _ d.1.becomes (taken report.ok)
    where
      taken : (ok : Bool) → Quiet call.asking (if ok then record call { remembered = put call.remembered d.1.slot d.1.node.word } else failed call.progress call).asking
      taken true = inl refl
      taken false = inr (failed_fresh call.progress call)
  step_heard map kind.Check d =
      by_ok report.ok
      (λ good. found_heard out d.1.knows d.1.planned d.1.becomes (d.1.passes good))
      (λ bad. freshly kind.Check out old d.1.planned d.1.becomes (ap (λ (f : CallState ℕ). f.asking) (d.1.fails bad).1 ∙ failed_fresh call.progress call))
  step_heard map kind.Read d = saw_heard d.1.knows.node.node d.1.whole out d.1.sees
  step_heard map kind.Upgrade d =
      by_ok report.ok
      (λ good. quietly kind.Upgrade refl out d.1.reports.1 _ _ (d.1.locks good) (inl refl))
      (λ bad. quietly kind.Upgrade refl out d.1.reports.1 old _ (d.1.fails bad) (not_locked_quiet call.progress call.held call))
  step_heard map kind.Make (t, may, inl d) = quietly kind.Make refl out d.reports.1 _ _ d.becomes (inl refl)
  step_heard map kind.Make (t, may, inr d) = made_heard call.progress out d.reports.1 _ d.becomes
  step_heard map kind.Write d = freshly kind.Write out _ _ d.1.becomes refl
  step_heard map kind.Obsolete d = quietly kind.Obsolete refl out d.reports.1 _ _ d.becomes (inl refl)
  step_heard map kind.Unlock d = quietly kind.Unlock refl out d.reports.1 _ _ d.becomes (unlocked_quiet call.progress call.cleaning (off d.held.slot call.held) (record call { held = off d.held.slot call.held }))
  step_heard map kind.Answer d = answer_heard d.1.asked out d.1.wanted d.1.hears
  step_heard map kind.Finish d =
      subst (λ (f : Option (CallState ℕ)). HeardBy (after_step kind.Finish env.answer out p) f) (sym (ap (λ (s : State ℕ). lookup s.calls id) d.after ∙ lookup-without_same 0 (2 ^ 64) old.calls id map)) tt
  step_heard map kind.Reclaim d = absurd d

-- what the order of a number allows is what a step of its pending call may report, and the call after it
module _ (m : Pairs ℕ) (k : Kind) (answer : Option ℕ) (p : PendingCall) (next : Course) where
  turned : (out : Outcome ℕ) (pr : Progress) → p.progress ≡ pr → TurnsBy out (Some (p.op, pr)) next → next ≡ course_of (after_step k answer out p)
  turned Going pr e t = t ∙ ap (λ (x : Progress). Some (p.op, x)) (sym e)
  turned (Ask old) pr e t = t ∙ ap (λ (x : Progress). Some (p.op, x)) (sym e)
  turned (Pair key value) pr e t = t ∙ ap (λ (x : Progress). Some (p.op, x)) (sym e)
  turned (Decided reply) progress.Open e t = t.1
  turned (Decided reply) progress.Decided e t = absurd t
  turned (Decided reply) progress.Refused e t = absurd t
  turned Refused progress.Open e t = t
  turned Refused progress.Decided e t = absurd t
  turned Refused progress.Refused e t = absurd t
  turned Done progress.Open e t = t.1
  turned Done progress.Decided e t = t
  turned Done progress.Refused e t = t
  turned Unknown pr e t = absurd t

  -- what the order of a number doesn't have: questions and pairs
  abbrev Besides : Outcome ℕ → Type 0
  Besides (Ask old) = (p.progress ≡ progress.Open) × (old ≡ lookup m (key_of p.op))
  Besides (Pair key value) = (IsPoint p.op → ⊥) × (lookup m key ≡ Some value)
  Besides out = Unit {0}

  reports : (out : Outcome ℕ) (pr : Progress) → p.progress ≡ pr → Besides out → TurnsBy out (Some (p.op, pr)) next → MayReport m p out
  reports Going pr e b t = tt
  reports (Ask old) pr e b t = b
  reports (Pair key value) pr e b t = b
  reports (Decided reply) progress.Open e b t = (t.0, e)
  reports (Decided reply) progress.Decided e b t = absurd t
  reports (Decided reply) progress.Refused e b t = absurd t
  reports Refused progress.Open e b t = e
  reports Refused progress.Decided e b t = absurd t
  reports Refused progress.Refused e b t = absurd t
  reports Done progress.Open e b t = λ point still. t.0 point
  reports Done progress.Decided e b t = λ point still. decided_open (sym e ∙ still)
  reports Done progress.Refused e b t = λ point still. refused_open (sym e ∙ still)
  reports Unknown pr e b t = absurd t

-- only a range may give a pair
gives_range : (op : Op ℕ) (given key : ℕ) → MayGive (outline_of op) given key → IsPoint op → ⊥
gives_range (Range a b n) given key may point = point
gives_range (Get k) given key may point = may
gives_range (Insert k v) given key may point = may
gives_range (Remove k) given key may point = may
gives_range (ComputeIfPresent k) given key may point = may
gives_range (ComputeOrInsert k v) given key may point = may
gives_range (CompareExchange k a b) given key may point = may

-- a question comes from an open call and has the current value, and a stored pair comes from a range
besides : (m : Pairs ℕ) (old new : State ℕ) (i : ℕ) (env : Env ℕ) (report : Report) (call : CallState ℕ) (p : PendingCall) (next : Course) → IsContent old m → IsOf p.op call → p.progress ≡ call.progress
    → (out : Outcome ℕ) → DoesAs (Unit {0}) same_number old new i call env report out report.kind → Besides m report.kind env.answer p next out
besides m old new i env report call p next content of same (Ask asked) does =
    let a = asks old new i call env report asked report.kind does in
    (same ∙ a.0, sym (current_there old m content (key_of call.outline) asked a.1) ∙ ap (λ (key : ℕ). lookup m key) (sym (key_is p.op call.outline (sym of.outline))))
besides m old new i env report call p next content of same (Pair key value) does =
    let g = pairs old new i call env report key value report.kind does in
    (gives_range p.op call.given key (subst (λ (o : Outline). MayGive o call.given key) of.outline g.0), (content.pairs key value).1 g.1)
besides m old new i env report call p next content of same Going does = tt
besides m old new i env report call p next content of same (Decided reply) does = tt
besides m old new i env report call p next content of same Refused does = tt
besides m old new i env report call p next content of same Done does = tt
besides m old new i env report call p next content of same Unknown does = tt

-- what the trace has of the closure last is what a decision has
last_of : (last asking : Asking ℕ) → Heard last asking → IsLast (asked_of asking) last
last_of last Fresh h = tt
last_of last (Wants old) h = tt
last_of last (Given old answer) (inl e) = absurd (given_fresh old answer e)
last_of last (Given old answer) (inr e) = sym e

-- a step decides what its outcome is a reply to, and nothing else
decided_first : (old new : State ℕ) (i : ℕ) (env : Env ℕ) (report : Report) (call : CallState ℕ) (p : PendingCall) → IsOf p.op call → Heard p.asking call.asking
    → (out : Outcome ℕ) → DoesAs (Unit {0}) same_number old new i call env report out report.kind → (ds : List Decision) (m n : Pairs ℕ) → IsHistory m (decided_by i (Some call) out) n
    → Decides i p out (decided_by i (Some call) out ++ ds) ds m n
decided_first old new i env report call p of heard (Decided reply) does ds m n h =
    let has = decides old new i call env report reply report.kind does in
    let first : IsHistory m (decided_by i (Some call) (Decided reply)) n → Decides i p (Decided reply) (decided_by i (Some call) (Decided reply) ++ ds) ds m n =
    rw has.1 (λ k. (
      record { id = i; op = has.0; asked = asked_of call.asking; reply = reply },
      record { number = refl; op = of.payloads has.0 has.1; asked = last_of p.asking call.asking heard; replied = refl },
      refl,
      k,
    ))
    in first h
decided_first old new i env report call p of heard Going does ds m n h = (refl, h)
decided_first old new i env report call p of heard (Ask asked) does ds m n h = (refl, h)
decided_first old new i env report call p of heard (Pair key value) does ds m n h = (refl, h)
decided_first old new i env report call p of heard Refused does ds m n h = (refl, h)
decided_first old new i env report call p of heard Done does ds m n h = (refl, h)
decided_first old new i env report call p of heard Unknown does ds m n h = (refl, h)

-- the rest of a run, from any pending calls that fit
abbrev Rest : State ℕ → Pairs ℕ → List (Event ℕ) → List Line → List Decision → Pairs ℕ → Type 0
Rest new n events lines ds last = (calls : ℕ → Option PendingCall) → AllFit calls new → Linearizes calls n events lines ds last

-- A STEP of a pending call
stepped : (old new : State ℕ) (m n last : Pairs ℕ) (i : ℕ) (env : Env ℕ) (report : Report) (out : Outcome ℕ) (seen : Option (Seen ℕ)) (call : CallState ℕ) → IsMap old.calls → IsContent old m → IsHistory m (decided_by i (Some call) out) n
    → DoesAs (Unit {0}) same_number old new i call env report out report.kind → (events : List (Event ℕ)) (lines : List Line) (ds : List Decision) → Rest new n events lines ds last
    → (calls : ℕ → Option PendingCall) → ((id : ℕ) → id ≢ i → Fits (calls id) (lookup new.calls id)) → (c : Option PendingCall) → calls i ≡ c → Fits c (Some call)
    → Linearizes calls m (Step i env ∷ events) (Made report out seen ∷ lines) (decided_by i (Some call) out ++ ds) last
stepped old new m n last i env report out seen call map content history does events lines ds go calls away None is fits = absurd fits.0
stepped old new m n last i env report out seen call map content history does events lines ds go calls away (Some p) is fits =
    let turn = step_turns old new i call env report out p.op fits.0.0 map report.kind does in
    let here : Fits (after_step report.kind env.answer out p) (lookup new.calls i) = (
      subst (λ (c : Course). Matches c (lookup new.calls i)) (turned m report.kind env.answer p turn.0 out call.progress fits.0.1 turn.1) turn.2,
      step_heard old new i call env report out p fits.1 map report.kind does,
    ) in (
      p,
      ds,
      n,
      is,
      reports m report.kind env.answer p turn.0 out call.progress fits.0.1 (besides m old new i env report call p turn.0 content fits.0.0 fits.0.1 out does) turn.1,
      decided_first old new i env report call p fits.0.0 fits.1 out does ds m n history,
      go (with_pending calls i (after_step report.kind env.answer out p)) (set_fits Fits calls i (after_step report.kind env.answer out p) new here away),
    )

-- if all calls in flight are unchanged
unchanged : (calls : ℕ → Option PendingCall) (old new : State ℕ) → ((id : ℕ) → lookup new.calls id ≡ lookup old.calls id) → AllFit calls old → AllFit calls new
unchanged calls old new e fit id = subst (λ (f : Option (CallState ℕ)). Fits (calls id) f) (sym (e id)) (fit id)

not_pending : (c : Option PendingCall) → Fits c None → c ≡ None
not_pending None fits = refl
not_pending (Some p) fits = absurd fits.0

start_fits : (op : Op ℕ) (count : ℕ) → Fits (Some (just_started op)) (Some (begun op count))
start_fits op count = ((record { outline = refl; payloads = λ o e. some_same o op (sym e) }, refl), inl refl)

-- the rest of a run whose first event leaves the map
same_map : (calls : ℕ → Option PendingCall) (m n last : Pairs ℕ) (events : List (Event ℕ)) (lines : List Line) (ds : List Decision) → n ≡ m → Linearizes calls n events lines ds last → Linearizes calls m events lines ds last
same_map calls m n last events lines ds e l = subst (λ (k : Pairs ℕ). Linearizes calls k events lines ds last) e l

one : (old new : State ℕ) (m n last : Pairs ℕ) (event : Event ℕ) (line : Line) (calls : ℕ → Option PendingCall) → IsMap old.calls → IsContent old m → Happens old event line new → IsHistory m (decided_at old event line) n → AllFit calls old
    → (events : List (Event ℕ)) (lines : List Line) (ds : List Decision) → Rest new n events lines ds last → Linearizes calls m (event ∷ events) (line ∷ lines) (decided_at old event line ++ ds) last
one old new m n last (Start i op) Skipped calls map content h e fit events lines ds go = same_map calls m n last events lines ds e (go calls (unchanged calls old new (λ id. ap (λ (s : State ℕ). lookup s.calls id) h.1) fit))
one old new m n last (Step i env) Skipped calls map content h e fit events lines ds go = same_map calls m n last events lines ds e (go calls (unchanged calls old new (λ id. ap (λ (s : State ℕ). lookup s.calls id) h.1) fit))
one old new m n last (Reclaim slot) Skipped calls map content h e fit events lines ds go = same_map calls m n last events lines ds e (go calls (unchanged calls old new (λ id. ap (λ (s : State ℕ). lookup s.calls id) h.1) fit))
one old new m n last (Reclaim slot) (Made report out seen) calls map content h e fit events lines ds go =
    (h.1.1, same_map calls m n last events lines ds e (go calls (unchanged calls old new (λ id. ap (λ (s : State ℕ). lookup s.calls id) h.1.0.after) fit)))
one old new m n last (Start i op) (Made report out seen) calls map content h e fit events lines ds go =
    let here : Fits (Some (just_started op)) (lookup new.calls i) =
    subst (λ (f : Option (CallState ℕ)). Fits (Some (just_started op)) f) (sym (ap (λ (s : State ℕ). lookup s.calls i) h.1.0.after ∙ lookup-put_same old.calls i (begun op old.count))) (start_fits op old.count) in
    let away : (id : ℕ) → id ≢ i → Fits (calls id) (lookup new.calls id) = λ id ne.
    subst (λ (f : Option (CallState ℕ)). Fits (calls id) f) (sym (ap (λ (s : State ℕ). lookup s.calls id) h.1.0.after ∙ lookup-put_other old.calls i (begun op old.count) id ne)) (fit id) in
    let after : ℕ → Option PendingCall = with_pending calls i (Some (just_started op)) in (
      not_pending (calls i) (subst (λ (f : Option (CallState ℕ)). Fits (calls i) f) h.1.0.free (fit i)),
      h.1.1,
      same_map after m n last events lines ds e (go after (set_fits Fits calls i (Some (just_started op)) new here away)),
    )
one old new m n last (Step i env) (Made report out seen) calls map content h e fit events lines ds go =
    let step = h.1.0 in
    let away : (id : ℕ) → id ≢ i → Fits (calls id) (lookup new.calls id) = λ id ne.
    subst (λ (f : Option (CallState ℕ)). Fits (calls id) f) (sym (others_stay (Unit {0}) same_number old new i step.call step.call env report out id ne report.kind step.event)) (fit id) in
    rw step.in_flight (stepped old new m n last i env report out seen step.call map content (subst (λ (f : Option (CallState ℕ)). IsHistory m (decided_by i f out) n) step.in_flight e) step.event events lines ds go calls away (calls i) refl
    (subst (λ (f : Option (CallState ℕ)). Fits (calls i) f) step.in_flight (fit i)))

linear_on : (old : State ℕ) (m : Pairs ℕ) (xs : List Transition) (n : Pairs ℕ) (calls : ℕ → Option PendingCall) → IsMap old.calls → IsContent old m → IsMachineRun old m xs n → AllFit calls old
    → Linearizes calls m (events_in xs) (lines_in xs) (decided_in old xs) n
linear_on old m [] n calls map content run fit = run
linear_on old m (x ∷ xs) n calls map content run fit =
    one old x.after m x.content n x.event x.line calls map content run.0.happens run.0.history fit (events_in xs) (lines_in xs) (decided_in x.after xs)
    (λ later fits. linear_on x.after x.content xs n later run.0.well_formed.calls run.0.content run.1 fits)

-- In a run from the root alone each decision is made at a linearization point.
pub linearizes : (root : ℕ) (charge : Option Charge) (xs : List Transition) (n : Pairs ℕ) → IsMachineRun (fresh root charge) [] xs n → IsLinearizable (events_in xs) (lines_in xs) (decided_in (fresh root charge) xs) n
linearizes root charge xs n run = linear_on (fresh root charge) [] xs n none_pending tt (fresh_content root charge) run (λ id. (tt, tt))
