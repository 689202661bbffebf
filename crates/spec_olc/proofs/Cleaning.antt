-- Cleanups: what begins one, and that a call which has its reply decides nothing.
use Rattle.std.proofs.Common.{◌≡◌, ◌≢◌, ℕ, ◌+◌, ◌⊎◌, Bool, true, false, List, [], ◌∷◌, length, Option, Some, None, if◌then◌else◌, inl, inr, refl, sym, subst, ap, ◌∙◌}
use Rattle.spec_map.specs.Map.{lookup, put}
use Rattle.spec_node.specs.TableNode.{TableNode, Child}
use Rattle.spec_olc.proofs.Settling.{by_ok}
use Rattle.spec_olc.proofs.Steps.{call_after, none_some, some_is}
use Rattle.spec_olc.specs.Calls.{IsPoint, Outline}
use Rattle.spec_olc.specs.Due.{IsDue, IsLeft}
use Rattle.spec_olc.specs.Kinds.{AnswerOutcome, CheckOutcome, DoesAs, IsStep, NextIs, ReadOutcome, WriteOutcome, Writes, failed, not_locked, refusal, refused, unlocked}
use Rattle.spec_olc.specs.Lists.{off}
use Rattle.spec_olc.specs.Reading.{GoesOn, LooksOn, MayGive, Remembered}
use Rattle.spec_olc.specs.State.{CallState, Cleaning, State, back, stopped}
use Rattle.spec_olc.specs.Writing.{changed}
use Rattle.spec_olc.specs.declared.types.Env.{Env}
use Rattle.spec_olc.specs.declared.types.Kind.TheVariants as kind
use Rattle.spec_olc.specs.declared.types.Kind.{Kind}
use Rattle.spec_olc.specs.declared.types.Op.TheVariants.{Range}
use Rattle.spec_olc.specs.declared.types.Outcome.TheVariants.{Ask, Decided, Done, Going, Pair, Refused}
use Rattle.spec_olc.specs.declared.types.Outcome.{Outcome}
use Rattle.spec_olc.specs.declared.types.Progress.TheVariants as progress
use Rattle.spec_olc.specs.declared.types.Progress.{Progress}
use Rattle.spec_olc.specs.declared.types.Report.{Report}

decided_open : progress.Decided ≡ progress.Open → ⊥
decided_open e = cc

module _ {M : Type 0} where
  -- the call cleans up as before, or no more
  abbrev Keeps : CallState M → CallState M → Type 0
  Keeps call next = (next.cleaning ≡ call.cleaning) ⊎ (next.cleaning ≡ None)

  same_cleaning : (call next planned : CallState M) → Keeps call next → planned ≡ next → Keeps call planned
  same_cleaning call next planned k e = subst (λ (f : CallState M). Keeps call f) (sym e) k

  failed_keeps : (p : Progress) (call : CallState M) → Keeps call (failed p call)
  failed_keeps progress.Open call = inl refl
  failed_keeps progress.Decided call = inr refl
  failed_keeps progress.Refused call = inr refl

  not_locked_keeps : (p : Progress) (held : List ℕ) (call : CallState M) → Keeps call (not_locked p held call)
  not_locked_keeps progress.Open [] call = inl refl
  not_locked_keeps progress.Open (slot ∷ held) call = inl refl
  not_locked_keeps progress.Decided held call = inr refl
  not_locked_keeps progress.Refused held call = inr refl

  unlocked_keeps : (p : Progress) (cleaning : Option Cleaning) (held : List ℕ) (call : CallState M) → Keeps call (unlocked p cleaning held call)
  unlocked_keeps progress.Open cleaning held call = inl refl
  unlocked_keeps progress.Decided None held call = inl refl
  unlocked_keeps progress.Refused None held call = inl refl
  unlocked_keeps progress.Decided (Some c) [] call = inl refl
  unlocked_keeps progress.Refused (Some c) [] call = inl refl
  unlocked_keeps progress.Decided (Some c) (slot ∷ held) call = inr refl
  unlocked_keeps progress.Refused (Some c) (slot ∷ held) call = inr refl

  refused_keeps : (p : Progress) (call : CallState M) → Keeps call (refused p call)
  refused_keeps progress.Open call = inl refl
  refused_keeps progress.Decided call = inr refl
  refused_keeps progress.Refused call = inr refl

  goes_keeps : (call next planned : CallState M) → next.cleaning ≡ call.cleaning → GoesOn next planned → Keeps call planned
  goes_keeps call next planned same (inl e) = same_cleaning call next planned (inl same) e
  goes_keeps call next planned same (inr e) = same_cleaning call (back next) planned (inl same) e

  looks_keeps : (outline : Outline) (s : State M) (call : CallState M) (a : Remembered s call) (planned : CallState M) → LooksOn outline s call a planned → Keeps call planned
  looks_keeps (Range start end n) s call a planned h = goes_keeps call (record call { cursor = h.cursor; reach = h.reach }) planned refl h.next_is
  looks_keeps outline s call a planned (inl h) = same_cleaning call call planned (inl refl) h
  looks_keeps outline s call a planned (inr h) = same_cleaning call (stopped call) planned (inr refl) h.0

  module _ (Granted : Type 0) (same : M → M → Bool) (old new : State M) (id : ℕ) (call next : CallState M) (env : Env M) (report : Report) (there : lookup new.calls id ≡ Some next) where
    kept : (out : Outcome M) (base : State M) (planned : CallState M) → NextIs Granted same old new id call env report out base planned → Keeps call planned → Keeps call next
    kept out base planned b k =
        let is : next.cleaning ≡ planned.cleaning = ap (λ (f : CallState M). f.cleaning) (sym (call_after base new id b.next next b.after there)) ∙ ap (λ (f : CallState M). f.cleaning) b.is in
        subst (λ (c : Option Cleaning). (c ≡ call.cleaning) ⊎ (c ≡ None)) (sym is) k

    found_keeps : (out : Outcome M) (a : Remembered old call) (planned : CallState M) → NextIs Granted same old new id call env report out old planned → CheckOutcome Granted same old call a planned out → Keeps call next
    found_keeps Going a planned b h = kept Going old planned b (looks_keeps call.outline old call a planned h)
    found_keeps (Ask asked) a planned b h = kept (Ask asked) old planned b (same_cleaning call _ planned (inl refl) h.2)
    found_keeps (Pair key value) a planned b h = kept (Pair key value) old planned b (goes_keeps call (record call { cursor = key + 1; reach = key + 1; given = call.given + 1 }) planned refl h.next_is)
    found_keeps (Decided reply) a planned b h = kept (Decided reply) old planned b (same_cleaning call _ planned (inl refl) h.2)
    found_keeps out a planned b h = absurd h

    saw_keeps : (out : Outcome M) (node : TableNode M) (whole : Bool) (o : Outcome M) → ReadOutcome Granted same old new id call env report out node whole o → Keeps call next
    saw_keeps out node true Going d = kept out old _ d.2 (inl refl)
    saw_keeps out node true Refused d = kept out old _ d.3.becomes (inl refl)
    saw_keeps out node false Going d = kept out old _ d (inl refl)
    saw_keeps out node whole o d = absurd d

    heard_keeps : (out : Outcome M) (asked : Option M) (o : Outcome M) → AnswerOutcome Granted same old new id call env report out asked o → Keeps call next
    heard_keeps out asked Going d = kept out old _ d (inl refl)
    heard_keeps out asked Refused d = kept out old _ d.2.becomes (inl refl)
    heard_keeps out asked o d = absurd d

    does_keep : (out : Outcome M) (k : Kind) → out ≢ Done → k ≢ kind.Write → DoesAs Granted same old new id call env report out k → Keeps call next
    does_keep out kind.Start more other d = absurd d
    does_keep out kind.Take more other d = kept out old _ d.1.becomes (taken report.ok)
      where
        taken : (ok : Bool) → Keeps call (if ok then record call { remembered = put call.remembered d.1.slot d.1.node.word } else failed call.progress call)
        taken true = inl refl
        taken false = failed_keeps call.progress call
    does_keep out kind.Check more other d =
        by_ok report.ok
        (λ good. found_keeps out d.1.knows d.1.planned d.1.becomes (d.1.passes good))
        (λ bad. kept out old d.1.planned d.1.becomes (same_cleaning call (failed call.progress call) d.1.planned (failed_keeps call.progress call) (d.1.fails bad).1))
    does_keep out kind.Read more other d = saw_keeps out d.1.knows.node.node d.1.whole out d.1.sees
    does_keep out kind.Upgrade more other d =
        by_ok report.ok
        (λ good. kept out _ _ (d.1.locks good) (inl refl))
        (λ bad. kept out old _ (d.1.fails bad) (not_locked_keeps call.progress call.held call))
    does_keep out kind.Make more other (t, may, inl d) = kept out _ _ d.becomes (inl refl)
    does_keep out kind.Make more other (t, may, inr d) = kept out _ _ d.becomes (refused_keeps call.progress (record call { made = [] }))
    does_keep out kind.Write more other d = absurd (other refl)
    does_keep out kind.Obsolete more other d = kept out _ _ d.becomes (inl refl)
    does_keep out kind.Unlock more other d = kept out _ _ d.becomes (unlocked_keeps call.progress call.cleaning (off d.held.slot call.held) (record call { held = off d.held.slot call.held }))
    does_keep out kind.Answer more other d = heard_keeps out d.1.asked out d.1.hears
    does_keep out kind.Finish more other d = absurd (more d.reports.1)
    does_keep out kind.Reclaim more other d = absurd d

  module _ (Granted : Type 0) (same : M → M → Bool) (old new : State M) (id : ℕ) (call next : CallState M) (env : Env M) (report : Report) (out : Outcome M) where
    pub keeps_cleaning : lookup old.calls id ≡ Some call → IsStep Granted same old new id env report out → out ≢ Done → report.kind ≢ kind.Write → lookup new.calls id ≡ Some next → Keeps call next
    keeps_cleaning here step more other there =
        let is : step.call ≡ call = some_is step.call call (sym step.in_flight ∙ here) in
        subst (λ (f : CallState M). Keeps f next) is (does_keep Granted same old new id step.call next env report there out report.kind more other step.event)

    -- what a Write leaves
    left_due : (was : Option Cleaning) (child : Option (Child M)) (a : TableNode M) (left : Option Cleaning) (c : Cleaning) → IsLeft was child a left → left ≡ Some c → (child ≡ None) × IsDue a × (c.depth ≡ length a.prefix)
    left_due was child a None c h e = absurd (none_some c e)
    left_due was child a (Some l) c h e = subst (λ (x : Cleaning). (child ≡ None) × IsDue a × (x.depth ≡ length a.prefix)) (some_is l c e) (h.1, h.2, h.3)

    pub due_node : (c : Cleaning) (w : Writes Granted same old new id call env report out) → lookup new.calls id ≡ Some next → next.cleaning ≡ Some c
        → (w.child ≡ None) × IsDue (changed call w.held.node w.child).node × (c.depth ≡ length w.held.node.node.prefix)
    due_node c w there cleans =
        let is : next.cleaning ≡ w.left = ap (λ (f : CallState M). f.cleaning) (sym (call_after _ new id w.becomes.next next w.becomes.after there)) ∙ ap (λ (f : CallState M). f.cleaning) w.becomes.is in
        left_due call.cleaning w.child (changed call w.held.node w.child).node w.left c w.leaves (sym is ∙ cleans)

  module _ (Granted : Type 0) (same : M → M → Bool) (old new : State M) (id : ℕ) (call : CallState M) (env : Env M) (report : Report) (decided : call.progress ≡ progress.Decided) where
    abbrev Silent : Outcome M → Type 0
    Silent out = (out ≡ Going) ⊎ (out ≡ Done)

    never : {X : Type 0} → call.progress ≡ progress.Open → X
    never undecided = absurd (decided_open (sym decided ∙ undecided))

    no_range : {X : Type 0} (outline : Outline) (given key : ℕ) → IsPoint outline → MayGive outline given key → X
    no_range (Range a b n) given key point may = absurd point
    no_range outline given key point may = absurd may

    found_silent : (out : Outcome M) (a : Remembered old call) (planned : CallState M) → IsPoint call.outline → CheckOutcome Granted same old call a planned out → Silent out
    found_silent Going a planned point h = inl refl
    found_silent (Ask asked) a planned point h = never h.0.undecided
    found_silent (Pair key value) a planned point h = no_range call.outline call.given key point h.may
    found_silent (Decided reply) a planned point h = never h.0.undecided
    found_silent out a planned point h = absurd h

    saw_silent : (out : Outcome M) (node : TableNode M) (whole : Bool) (o : Outcome M) → ReadOutcome Granted same old new id call env report out node whole o → Silent o
    saw_silent out node true Going d = inl refl
    saw_silent out node true Refused d = never d.3.undecided
    saw_silent out node false Going d = inl refl
    saw_silent out node whole o d = absurd d

    heard_silent : (out : Outcome M) (asked : Option M) (o : Outcome M) → AnswerOutcome Granted same old new id call env report out asked o → Silent o
    heard_silent out asked Going d = inl refl
    heard_silent out asked Refused d = never d.2.undecided
    heard_silent out asked o d = absurd d

    wrote_silent : (o : Outcome M) → WriteOutcome Granted same call o → Silent o
    wrote_silent Going d = inl refl
    wrote_silent (Decided reply) d = never d.undecided
    wrote_silent o d = absurd d

    does_silently : (out : Outcome M) (k : Kind) → IsPoint call.outline → DoesAs Granted same old new id call env report out k → Silent out
    does_silently out kind.Start point d = absurd d
    does_silently out kind.Take point d = inl d.1.reports.1
    does_silently out kind.Check point d =
        by_ok report.ok
        (λ good. found_silent out d.1.knows d.1.planned point (d.1.passes good))
        (λ bad. inl (d.1.fails bad).0)
    does_silently out kind.Read point d = saw_silent out d.1.knows.node.node d.1.whole out d.1.sees
    does_silently out kind.Upgrade point d = inl d.1.reports.1
    does_silently out kind.Make point (t, may, inl d) = inl d.reports.1
    does_silently out kind.Make point (t, may, inr d) = inl (subst (λ (p : Progress). out ≡ refusal p) decided d.reports.1)
    does_silently out kind.Write point d = wrote_silent out d.1.reports
    does_silently out kind.Obsolete point d = inl d.reports.1
    does_silently out kind.Unlock point d = inl d.reports.1
    does_silently out kind.Answer point d = heard_silent out d.1.asked out d.1.hears
    does_silently out kind.Finish point d = inr d.reports.1
    does_silently out kind.Reclaim point d = absurd d

  pub decides_nothing : (Granted : Type 0) (same : M → M → Bool) (old new : State M) (id : ℕ) (call : CallState M) (env : Env M) (report : Report) (out : Outcome M) → lookup old.calls id ≡ Some call → IsPoint call.outline
      → call.progress ≡ progress.Decided → IsStep Granted same old new id env report out → (out ≡ Going) ⊎ (out ≡ Done)
  decides_nothing Granted same old new id call env report out here point decided step =
      let is : call ≡ step.call = some_is call step.call (sym here ∙ step.in_flight) in
      does_silently Granted same old new id step.call env report (subst (λ (f : CallState M). f.progress ≡ progress.Decided) is decided) out report.kind (subst (λ (f : CallState M). IsPoint f.outline) is point) step.event
