-- No step changes the seats.
use Rattle.std.proofs.Common.{◌≡◌, ℕ, Bool, true, false, IsTrue, Option, inl, inr, refl, ap}
use Rattle.spec_node.specs.TableNode.{TableNode}
use Rattle.spec_olc.specs.Kinds.{DoesAs, ReadOutcome, AnswerOutcome}
use Rattle.spec_olc.specs.State.{State, CallState}
use Rattle.spec_olc.specs.declared.types.Env.{Env}
use Rattle.spec_olc.specs.declared.types.Kind.TheVariants as kind
use Rattle.spec_olc.specs.declared.types.Kind.{Kind}
use Rattle.spec_olc.specs.declared.types.Outcome.TheVariants as outcome
use Rattle.spec_olc.specs.declared.types.Outcome.{Outcome}
use Rattle.spec_olc.specs.declared.types.Report.{Report}

module _ {M : Type 0} (Granted : Type 0) (same : M → M → Bool) (old new : State M) (id : ℕ) (call : CallState M) (env : Env M) (report : Report) (out : Outcome M) where
  as_in : (base : State M) → new ≡ base → new.seats ≡ base.seats
  as_in base is = ap (λ (t : State M). t.seats) is

  reads_seats : (node : TableNode M) (whole : Bool) (o : Outcome M) → ReadOutcome Granted same old new id call env report out node whole o → new.seats ≡ old.seats
  reads_seats node true outcome.Going d = as_in _ d.2.after
  reads_seats node true outcome.Refused d = as_in _ d.3.becomes.after
  reads_seats node false outcome.Going d = as_in _ d.after
  reads_seats node whole _ d = absurd d

  hears_seats : (asked : Option M) (o : Outcome M) → AnswerOutcome Granted same old new id call env report out asked o → new.seats ≡ old.seats
  hears_seats asked outcome.Going d = as_in _ d.after
  hears_seats asked outcome.Refused d = as_in _ d.2.becomes.after
  hears_seats asked _ d = absurd d

  by_either : {X : Type 0} → (ok : Bool) → (IsTrue ok → X) → (ok ≡ false → X) → X
  by_either true good bad = good refl
  by_either false good bad = bad refl

  pub seats_stay : (k : Kind) → DoesAs Granted same old new id call env report out k → new.seats ≡ old.seats
  seats_stay kind.Start d = absurd d
  seats_stay kind.Take d = as_in _ d.1.becomes.after
  seats_stay kind.Check d = as_in _ d.1.becomes.after
  seats_stay kind.Read d = reads_seats d.1.knows.node.node d.1.whole out d.1.sees
  seats_stay kind.Upgrade d = by_either report.ok (λ good. as_in _ (d.1.locks good).after) (λ bad. as_in _ (d.1.fails bad).after)
  seats_stay kind.Make (t, may, inl d) = as_in _ d.becomes.after
  seats_stay kind.Make (t, may, inr d) = as_in _ d.becomes.after
  seats_stay kind.Write d = as_in _ d.1.becomes.after
  seats_stay kind.Obsolete d = as_in _ d.becomes.after
  seats_stay kind.Unlock d = as_in _ d.becomes.after
  seats_stay kind.Answer d = hears_seats d.1.asked out d.1.hears
  seats_stay kind.Finish d = as_in _ d.after
  seats_stay kind.Reclaim d = absurd d
