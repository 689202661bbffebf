-- What follows from single events.
use Rattle.std.proofs.Common.{◌≡◌, ◌≢◌, ℕ, Bool, true, false, IsTrue, List, [], ◌∷◌, Option, Some, None, if◌then◌else◌, inl, inr, refl, sym, subst, ap, ◌∙◌}
use Rattle.std.proofs.lemmas.Bool.Decides.{eqb_tells}
use Rattle.spec_map.proofs.MapLaws.{lookup-put_same, lookup-put_other, lookup-without_other}
use Rattle.spec_map.specs.Map.{lookup, put}
use Rattle.spec_node.specs.TableNode.{TableNode}
use Rattle.spec_olc.specs.declared.types.Outcome.TheVariants as outcome
use Rattle.spec_olc.specs.Kinds.{NextIs, ReadOutcome, AnswerOutcome, Takes, Retires, Unlocks, DoesAs, failed, unlocked}
use Rattle.spec_olc.specs.Lists.{is_in, off}
use Rattle.spec_olc.specs.State.{State, CallState, Cleaning, with_call}
use Rattle.spec_olc.specs.declared.types.Env.{Env}
use Rattle.spec_olc.specs.declared.types.Kind.TheVariants as kind
use Rattle.spec_olc.specs.declared.types.Kind.{Kind}
use Rattle.spec_olc.specs.declared.types.Outcome.{Outcome}
use Rattle.spec_olc.specs.declared.types.Progress.{Progress}
use Rattle.spec_olc.specs.declared.types.Progress.TheVariants as progress
use Rattle.spec_olc.specs.declared.types.Report.{Report}

pub some_is : {X : Type 0} (x y : X) → Some x ≡ Some y → x ≡ y
some_is x y e = cc

none_if : {X : Type 0} (o : Option X) → ((x : X) → o ≡ Some x → ⊥) → o ≡ None
none_if None h = refl
none_if (Some x) h = absurd (h x refl)

pub none_some : {X : Type 0} (x : X) → None ≡ Some x → ⊥
none_some x e = cc

module _ {M : Type 0} where
  -- the call after an event is the one that was put there
  pub call_after : (base new : State M) (id : ℕ) (put_there next : CallState M) → new ≡ with_call base id put_there → lookup new.calls id ≡ Some next → put_there ≡ next
  call_after base new id put_there next after here =
      some_is put_there next (sym (ap (λ (s : State M). lookup s.calls id) after ∙ lookup-put_same base.calls id put_there) ∙ here)

  pub other_call : (base new : State M) (id other : ℕ) (put_there : CallState M) → new ≡ with_call base id put_there → other ≢ id → lookup new.calls other ≡ lookup base.calls other
  other_call base new id other put_there after ne =
      ap (λ (s : State M). lookup s.calls other) after ∙ lookup-put_other base.calls id put_there other ne

  -- a call that has failed remembers no word, and keeps what it holds and has made
  failed_forgets : (p : Progress) (call : CallState M) → (failed p call).remembered ≡ []
  failed_forgets progress.Open call = refl
  failed_forgets _ call = refl

  pub failed_keeps : (p : Progress) (call : CallState M) → ((failed p call).held ≡ call.held) × ((failed p call).made ≡ call.made) × ((failed p call).cursor ≡ call.cursor)
  failed_keeps progress.Open call = (refl, refl, refl)
  failed_keeps _ call = (refl, refl, refl)

  module _ (Granted : Type 0) (same : M → M → Bool) (old new : State M) (id : ℕ) (call next : CallState M) (env : Env M) (report : Report) (out : Outcome M) where
    -- the call after an event, and the calls of other numbers
    next_is : (base : State M) (planned : CallState M) (b : NextIs Granted same old new id call env report out base planned) → lookup new.calls id ≡ Some next → b.next ≡ next
    next_is base planned b here = call_after base new id b.next next b.after here

    away : (base : State M) (planned : CallState M) (other : ℕ) → NextIs Granted same old new id call env report out base planned → other ≢ id → lookup new.calls other ≡ lookup base.calls other
    away base planned other b ne = other_call base new id other b.next b.after ne

    forgotten : (b : NextIs Granted same old new id call env report out old (failed call.progress call)) → (slot : ℕ) → lookup b.next.remembered slot ≡ None
    forgotten b slot = none_if _ (λ w e. none_some w (ap (λ (words : List (ℕ × ℕ)). lookup words slot) (sym (failed_forgets call.progress call)) ∙ b.remembered slot w e))

    pub failed_take : Takes Granted same old new id call env report out → report.ok ≡ false → lookup new.calls id ≡ Some next → (slot : ℕ) → lookup next.remembered slot ≡ None
    failed_take t fails here slot =
        let b : NextIs Granted same old new id call env report out old (failed call.progress call) =
        subst (λ (ok : Bool). NextIs Granted same old new id call env report out old (if ok then record call { remembered = put call.remembered t.slot t.node.word } else failed call.progress call)) fails t.becomes in
        subst (λ (n : CallState M). lookup n.remembered slot ≡ None) (next_is old (failed call.progress call) b here) (forgotten b slot)

    keeps_held : (ok : Bool) (slot word : ℕ) (b : NextIs Granted same old new id call env report out old (if ok then record call { remembered = put call.remembered slot word } else failed call.progress call))
        → (b.next.held ≡ call.held) × (b.next.made ≡ call.made) × (b.next.cursor ≡ call.cursor)
    keeps_held true slot word b = (ap (λ (f : CallState M). f.held) b.is, ap (λ (f : CallState M). f.made) b.is, ap (λ (f : CallState M). f.cursor) b.is)
    keeps_held false slot word b =
        let kept = failed_keeps call.progress call in
        (ap (λ (f : CallState M). f.held) b.is ∙ kept.0, ap (λ (f : CallState M). f.made) b.is ∙ kept.1, ap (λ (f : CallState M). f.cursor) b.is ∙ kept.2)

    pub take_keeps : Takes Granted same old new id call env report out → lookup new.calls id ≡ Some next → (next.held ≡ call.held) × (next.made ≡ call.made) × (next.cursor ≡ call.cursor)
    take_keeps t here =
        subst (λ (n : CallState M). (n.held ≡ call.held) × (n.made ≡ call.made) × (n.cursor ≡ call.cursor)) (next_is old _ t.becomes here)
        (keeps_held report.ok t.slot t.node.word t.becomes)

    is_off : (slot : ℕ) (held : List ℕ) → is_in slot (off slot held) ≡ false
    is_off slot [] = refl
    is_off slot (x ∷ xs) =
        elim (eqb_tells x slot) [
          | inl at ↦ rw at.0 (is_off slot xs)
          | inr far ↦ rw (far.0, far.0) (is_off slot xs)
        ]

    unlocked_held : (p : Progress) (cleaning : Option Cleaning) (held : List ℕ) (f : CallState M) → (unlocked p cleaning held f).held ≡ f.held
    unlocked_held progress.Open cleaning held f = refl
    unlocked_held _ None held f = refl
    unlocked_held _ (Some length_is) [] f = refl
    unlocked_held _ (Some length_is) (slot ∷ held) f = refl

    pub unlock_frees : (slot : ℕ) → Unlocks Granted same old new id call env report out → report.slot ≡ Some slot → lookup new.calls id ≡ Some next → is_in slot next.held ≡ false
    unlock_frees slot u at here =
        let slot_is : u.held.slot ≡ slot = some_is u.held.slot slot (sym (ap (λ (r : Report). r.slot) u.reports.0) ∙ at) in
        let held_is : u.becomes.next.held ≡ off u.held.slot call.held = ap (λ (f : CallState M). f.held) u.becomes.is ∙ unlocked_held call.progress call.cleaning (off u.held.slot call.held) (record call { held = off u.held.slot call.held }) in
        subst (λ (n : CallState M). is_in slot n.held ≡ false) (next_is _ _ u.becomes here)
        (ap (is_in slot) held_is ∙ (ap (λ s. is_in slot (off s call.held)) slot_is ∙ is_off slot call.held))

    pub obsolete_frees : (slot : ℕ) → Retires Granted same old new id call env report out → report.slot ≡ Some slot → lookup new.calls id ≡ Some next → is_in slot next.held ≡ false
    obsolete_frees slot u at here =
        let slot_is : u.held.slot ≡ slot = some_is u.held.slot slot (sym (ap (λ (r : Report). r.slot) u.reports.0) ∙ at) in
        let held_is : u.becomes.next.held ≡ off u.held.slot call.held = ap (λ (f : CallState M). f.held) u.becomes.is in
        subst (λ (n : CallState M). is_in slot n.held ≡ false) (next_is _ _ u.becomes here)
        (ap (is_in slot) held_is ∙ (ap (λ s. is_in slot (off s call.held)) slot_is ∙ is_off slot call.held))

    reads_away : (node : TableNode M) (whole : Bool) (o : Outcome M) (other : ℕ) → other ≢ id → ReadOutcome Granted same old new id call env report out node whole o → lookup new.calls other ≡ lookup old.calls other
    reads_away node true outcome.Going other ne d = away old _ other d.2 ne
    reads_away node true outcome.Refused other ne d = away old _ other d.3.becomes ne
    reads_away node false outcome.Going other ne d = away old _ other d ne
    reads_away node whole _ other ne d = absurd d

    hears_away : (asked : Option M) (o : Outcome M) (other : ℕ) → other ≢ id → AnswerOutcome Granted same old new id call env report out asked o → lookup new.calls other ≡ lookup old.calls other
    hears_away asked outcome.Going other ne d = away old _ other d ne
    hears_away asked outcome.Refused other ne d = away old _ other d.2.becomes ne
    hears_away asked _ other ne d = absurd d

    -- an Upgrade that is ok and one that fails
    pub by_ok : {X : Type 0} → (ok : Bool) → (IsTrue ok → X) → (ok ≡ false → X) → X
    by_ok true good bad = good refl
    by_ok false good bad = bad refl

    pub others_stay : (other : ℕ) → other ≢ id → (k : Kind) → DoesAs Granted same old new id call env report out k → lookup new.calls other ≡ lookup old.calls other
    others_stay other ne kind.Start d = absurd d
    others_stay other ne kind.Take d = away old _ other d.1.becomes ne
    others_stay other ne kind.Check d = away old _ other d.1.becomes ne
    others_stay other ne kind.Read d = reads_away d.1.knows.node.node d.1.whole out other ne d.1.sees
    others_stay other ne kind.Upgrade d = by_ok report.ok (λ good. away _ _ other (d.1.locks good) ne) (λ bad. away _ _ other (d.1.fails bad) ne)
    others_stay other ne kind.Make (w, may, inl d) = away _ _ other d.becomes ne
    others_stay other ne kind.Make (w, may, inr d) = away _ _ other d.becomes ne
    others_stay other ne kind.Write d = away _ _ other d.1.becomes ne
    others_stay other ne kind.Obsolete d = away _ _ other d.becomes ne
    others_stay other ne kind.Unlock d = away _ _ other d.becomes ne
    others_stay other ne kind.Answer d = hears_away d.1.asked out other ne d.1.hears
    others_stay other ne kind.Finish d = ap (λ (s : State M). lookup s.calls other) d.after ∙ lookup-without_other old.calls id other ne
    others_stay other ne kind.Reclaim d = absurd d
