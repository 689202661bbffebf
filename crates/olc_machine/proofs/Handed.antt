-- When a call is in flight, what a reader sees of it, and that a step has the same report.
use Rattle.std.proofs.Common.{◌≡◌, ℕ, ◌<◌, ◌^◌, Bool, true, false, IsTrue, ◌↔◌, Option, Some, None, IsSome, inl, inr, refl, sym, subst, ap, ◌∙◌}
use Rattle.spec_map.specs.Map.{Pairs, lookup}
use Rattle.spec_node.specs.TableNode.{TableNode}
use Rattle.spec_olc.specs.Calls.{outline_of}
use Rattle.spec_olc.specs.Content.{IsContent}
use Rattle.spec_olc.specs.Deciding.{IsContentStep}
use Rattle.spec_olc.specs.Kinds.{DoesAs, CheckOutcome, AnswerOutcome, IsStart, IsStep, ReadOutcome, WriteOutcome, refusal}
use Rattle.spec_olc.specs.Meaning.{in_some, meant, op_of}
use Rattle.spec_olc.specs.Seats.{IsHanded, seen_in}
use Rattle.spec_olc.specs.State.{CallState, State}
use Rattle.spec_olc.specs.declared.types.Env.{Env}
use Rattle.spec_olc.specs.declared.types.Kind.{Kind}
use Rattle.spec_olc.specs.declared.types.Kind.TheVariants as kind
use Rattle.spec_olc.specs.declared.types.Op.{Op}
use Rattle.spec_olc.specs.declared.types.Outcome.{Outcome}
use Rattle.spec_olc.specs.declared.types.Outcome.TheVariants.{Going, Refused, Done, Unknown}
use Rattle.spec_olc.specs.declared.types.Progress.{Progress}
use Rattle.spec_olc.specs.declared.types.Progress.TheVariants as progress
use Rattle.spec_olc.specs.declared.types.Report.{Report}
use Rattle.olc_words.specs.Epoch.{pin_of}
use Rattle.olc_state.specs.declared.stage.Record.{Record}
use Rattle.olc_state.specs.inner.Facts.{IsSoundWorld}
use Rattle.olc_state.specs.inner.Meant.{meant_record, meant_world}
use Rattle.olc_state.specs.inner.Shown.{flight, flight_in, state_of}
use Rattle.olc_state.specs.inner.World.{World, record_of}
use Rattle.olc_state.proofs.Options.{none_some, some_same}
use Rattle.olc_state.proofs.States.{meant_call, meant_state, shown_flight}
use Rattle.olc_machine.proofs.Turning.{flown}

pub nothing_there : (X : Type 0) → let n : Option X = None in IsSome n → ⊥
nothing_there X h = cc

module _ {X : Type 0} where
  pub none_there : (x : Option X) → (IsSome x → ⊥) → x ≡ None
  none_there None h = refl
  none_there (Some v) h = absurd (h refl)

  some_there : (x : Option X) → IsSome x → (v : X) × (x ≡ Some v)
  some_there None h = absurd (nothing_there X h)
  some_there (Some v) h = (v, refl)

  pub absent : (x : Option X) → x ≡ None → IsSome x → ⊥
  absent x e h = nothing_there X (subst (λ (z : Option X). IsSome z) e h)

module _ {P M : Type 0} (meaning : P → M) (Granted : Type 0) (same : M → M → Bool) (w : World P) (id : ℕ) (small : id < 2 ^ 64)
    (sound : IsSoundWorld Granted same (meant_world meaning w)) where
  -- a call in flight has a pin
  pub pin_there : (r : Record P) → record_of w id ≡ Some r → (pin : ℕ) × (pin_of w.pins id ≡ Some pin)
  pin_there r found =
      some_there (pin_of w.pins id) (sound.pinned id (meant_record meaning r) (meant_call meaning w id ∙ ap (in_some (meant_record meaning)) found))

  pub no_pin : IsSome (record_of w id) → pin_of w.pins id ≡ None → ⊥
  no_pin h none = let r = some_there (record_of w id) h in let p = pin_there r.0 r.1 in none_some p.0 (sym none ∙ p.1)

  pub in_flight : (r : Record P) → record_of w id ≡ Some r → (pin : ℕ) × (lookup (state_of w).calls id ≡ Some (flight pin r))
  in_flight r found = let p = pin_there r found in (p.0, flown w id p.0 r small found p.1)

  -- a number that isn't in flight has no pin
  pub free_pin : record_of w id ≡ None → pin_of w.pins id ≡ None
  free_pin none = none_there (pin_of w.pins id) (λ h.
      let p = some_there (pin_of w.pins id) h in
      absent (record_of (meant_world meaning w) id) (meant_call meaning w id ∙ ap (in_some (meant_record meaning)) none) (sound.called id p.0 p.1))

  -- a call is in flight if there is a record
  pub unflown : record_of w id ≡ None → lookup (state_of w).calls id ≡ None
  unflown none = shown_flight w id small ∙ ap (λ x. flight_in x (pin_of w.pins id)) none

  pub flies : IsSome (record_of w id) ↔ IsSome (lookup (state_of w).calls id)
  flies = (
    (λ h.
        let r = some_there (record_of w id) h in
        let f = in_flight r.0 r.1 in
        subst (λ (x : Option (CallState P)). IsSome x) (sym f.1) refl),
    (λ h. recorded (record_of w id) refl h),
  )
    where
      recorded : (x : Option (Record P)) → record_of w id ≡ x → IsSome (lookup (state_of w).calls id) → IsSome x
      recorded None e h = absurd (absent (lookup (state_of w).calls id) (unflown e) h)
      recorded (Some r) e h = refl

  pub unrecorded : lookup (state_of w).calls id ≡ None → record_of w id ≡ None
  unrecorded none = none_there (record_of w id) (λ h. absent (lookup (state_of w).calls id) none (flies.0 h))

  pub last_seen : (r : Record P) → record_of w id ≡ Some r → seen_in (lookup (state_of w).calls id) ≡ r.task.last
  last_seen r found = ap seen_in (in_flight r found).1

  pub handed : (r : Record P) → record_of w id ≡ Some r → (op : Op P) (b : Bool) → (IsTrue b ↔ (outline_of op ≡ r.task.outline))
      → (IsTrue b ↔ IsHanded (state_of w) id op)
  handed r found op b h =
      let f = in_flight r found in (
        (λ (t : IsTrue b). record { call = flight f.0 r; in_flight = f.1; same = h.0 t }),
        (λ (x : IsHanded (state_of w) id op). h.1 (x.same ∙ ap (λ (call : CallState P). call.outline) (some_same x.call (flight f.0 r) (sym x.in_flight ∙ f.1)))),
      )

going_unknown : {M : Type 0} → ◌≡◌ {A = Outcome M} Going Unknown → ⊥
going_unknown e = cc

refused_unknown : {M : Type 0} → ◌≡◌ {A = Outcome M} Refused Unknown → ⊥
refused_unknown e = cc

done_unknown : {M : Type 0} → ◌≡◌ {A = Outcome M} Done Unknown → ⊥
done_unknown e = cc

refusal_known : {M : Type 0} (p : Progress) → ◌≡◌ {A = Outcome M} (refusal p) Unknown → ⊥
refusal_known progress.Open e = refused_unknown e
refusal_known progress.Decided e = going_unknown e
refusal_known progress.Refused e = going_unknown e

-- a call of a number that isn't in flight can't be handed over
module _ {P M : Type 0} (meaning : P → M) (Granted : Type 0) (same : M → M → Bool) (w : World P) (id : ℕ) (small : id < 2 ^ 64)
    (sound : IsSoundWorld Granted same (meant_world meaning w)) where
  pub unhanded : record_of w id ≡ None → (op : Op P) → IsHanded (state_of w) id op → ⊥
  unhanded none op h =
      absent (lookup (state_of w).calls id) (unflown meaning Granted same w id small sound none) (subst (λ (x : Option (CallState P)). IsSome x) (sym h.in_flight) refl)

-- what a Start does, as a reader sees it
module _ {P M : Type 0} (meaning : P → M) (w w' : World P) (id : ℕ) where
  pub shown_start : (op handed : Op P) (report : Report) → op_of meaning op ≡ op_of meaning handed
      → IsStart (state_of (meant_world meaning w)) (state_of (meant_world meaning w')) id (op_of meaning op) report
      → IsStart (meant meaning (state_of w)) (meant meaning (state_of w')) id (op_of meaning handed) report
  shown_start op handed report same start =
      subst (λ (s : State M). IsStart s (meant meaning (state_of w')) id (op_of meaning handed) report) (sym (meant_state meaning w))
      (subst (λ (s : State M). IsStart (state_of (meant_world meaning w)) s id (op_of meaning handed) report) (sym (meant_state meaning w'))
      (subst (λ (o : Op M). IsStart (state_of (meant_world meaning w)) (state_of (meant_world meaning w')) id o report) same start))

  -- and what a step does
  pub shown_step : (Granted : Type 0) (same : M → M → Bool) (env : Env M) (report : Report) (out : Outcome M)
      → IsStep Granted same (state_of (meant_world meaning w)) (state_of (meant_world meaning w')) id env report out
      → IsStep Granted same (meant meaning (state_of w)) (meant meaning (state_of w')) id env report out
  shown_step Granted same env report out step =
      subst (λ (s : State M). IsStep Granted same s (meant meaning (state_of w')) id env report out) (sym (meant_state meaning w))
      (subst (λ (s : State M). IsStep Granted same (state_of (meant_world meaning w)) s id env report out) (sym (meant_state meaning w')) step)

  pub shown_carries : (same : M → M → Bool) (out : Outcome M)
      → ((m : Pairs M) → IsContent (state_of (meant_world meaning w)) m → IsContentStep same m (state_of (meant_world meaning w)) (state_of (meant_world meaning w')) id out)
      → (m : Pairs M) → IsContent (meant meaning (state_of w)) m → IsContentStep same m (meant meaning (state_of w)) (meant meaning (state_of w')) id out
  shown_carries same out carries m c =
      subst (λ (s : State M). IsContentStep same m s (meant meaning (state_of w')) id out) (sym (meant_state meaning w))
      (subst (λ (s : State M). IsContentStep same m (state_of (meant_world meaning w)) s id out) (sym (meant_state meaning w'))
      (carries m (subst (λ (s : State M). IsContent s m) (meant_state meaning w) c)))

module _ {M : Type 0} (Granted : Type 0) (same : M → M → Bool) where
  module _ (old new : State M) (id : ℕ) (call : CallState M) (env : Env M) (report : Report) (out : Outcome M) (e : out ≡ Unknown) where
    check_known : (ok : Bool) → report.ok ≡ ok → DoesAs Granted same old new id call env report out kind.Check → ⊥
    check_known true is h = subst (λ (o : Outcome M). CheckOutcome Granted same old call h.1.knows h.1.planned o) e (h.1.passes is)
    check_known false is h = going_unknown (sym (h.1.fails is).0 ∙ e)

    reads_known : (node : TableNode M) (whole : Bool) → ReadOutcome Granted same old new id call env report out node whole Unknown → ⊥
    reads_known node true h = h
    reads_known node false h = h

    does_known : (k : Kind) → DoesAs Granted same old new id call env report out k → ⊥
    does_known kind.Start h = h
    does_known kind.Take h = going_unknown (sym h.1.reports.1 ∙ e)
    does_known kind.Check h = check_known report.ok refl h
    does_known kind.Read h =
        reads_known h.1.knows.node.node h.1.whole (subst (λ (o : Outcome M). ReadOutcome Granted same old new id call env report out h.1.knows.node.node h.1.whole o) e h.1.sees)
    does_known kind.Upgrade h = going_unknown (sym h.1.reports.1 ∙ e)
    does_known kind.Make h = elim h.2 [ inl m ↦ going_unknown (sym m.reports.1 ∙ e) | inr m ↦ refusal_known call.progress (sym m.reports.1 ∙ e) ]
    does_known kind.Write h = subst (λ (o : Outcome M). WriteOutcome Granted same call o) e h.1.reports
    does_known kind.Obsolete h = going_unknown (sym h.reports.1 ∙ e)
    does_known kind.Unlock h = going_unknown (sym h.reports.1 ∙ e)
    does_known kind.Answer h = subst (λ (o : Outcome M). AnswerOutcome Granted same old new id call env report out h.1.asked o) e h.1.hears
    does_known kind.Finish h = done_unknown (sym h.reports.1 ∙ e)
    does_known kind.Reclaim h = h

  -- the outcome of an event that is done isn't `Unknown`
  pub step_known : (old new : State M) (id : ℕ) (env : Env M) (report : Report) (out : Outcome M) → IsStep Granted same old new id env report out → out ≡ Unknown → ⊥
  step_known old new id env report out h e = does_known old new id h.call env report out e report.kind h.event
