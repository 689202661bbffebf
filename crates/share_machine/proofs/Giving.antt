-- A pair that a range gives is stored.
use Rattle.std.proofs.Common.{◌≡◌, ℕ, Bool, true, false, IsTrue, inl, inr, refl}
use Rattle.spec_node.specs.TableNode.{TableNode}
use Rattle.spec_olc.specs.Content.{IsStoredAt}
use Rattle.spec_olc.specs.Kinds.{DoesAs, ReadOutcome, refusal}
use Rattle.spec_olc.specs.State.{State, CallState}
use Rattle.spec_olc.specs.declared.types.Env.{Env}
use Rattle.spec_olc.specs.declared.types.Kind.TheVariants as kind
use Rattle.spec_olc.specs.declared.types.Kind.{Kind}
use Rattle.spec_olc.specs.declared.types.Outcome.{Outcome}
use Rattle.spec_olc.specs.declared.types.Outcome.TheVariants.{Going, Ask, Pair, Decided, Refused, Done, Unknown}
use Rattle.spec_olc.specs.declared.types.Progress.TheVariants as progress
use Rattle.spec_olc.specs.declared.types.Progress.{Progress}
use Rattle.spec_olc.specs.declared.types.Report.{Report}

pair_going : {M : Type 0} (key : ℕ) (value : M) → Pair key value ≡ Going → ⊥
pair_going key value e = cc

pair_refused : {M : Type 0} (key : ℕ) (value : M) → Pair key value ≡ Refused → ⊥
pair_refused key value e = cc

pair_done : {M : Type 0} (key : ℕ) (value : M) → Pair key value ≡ Done → ⊥
pair_done key value e = cc

by_ok : {X : Type 0} → (ok : Bool) → (IsTrue ok → X) → (ok ≡ false → X) → X
by_ok true good bad = good refl
by_ok false good bad = bad refl

-- what is stored by the outcome of an event
abbrev pub IsGiven : {M : Type 0} → State M → Outcome M → Type 0
IsGiven s (Pair key value) = IsStoredAt s key value
IsGiven s out = Unit {0}

module _ {M : Type 0} (Granted : Type 0) (same : M → M → Bool) (old new : State M) (id : ℕ) (call : CallState M) (env : Env M) (report : Report) where
  module _ (key : ℕ) (value : M) where
    no_refusal : (p : Progress) → Pair key value ≡ refusal p → ⊥
    no_refusal progress.Open e = pair_refused key value e
    no_refusal progress.Decided e = pair_going key value e
    no_refusal progress.Refused e = pair_going key value e

    reads : (node : TableNode M) (whole : Bool) → ReadOutcome Granted same old new id call env report (Pair key value) node whole (Pair key value) → IsStoredAt old key value
    reads node true d = absurd d
    reads node false d = absurd d

    pair_stored : (k : Kind) → DoesAs Granted same old new id call env report (Pair key value) k → IsStoredAt old key value
    pair_stored kind.Start d = absurd d
    pair_stored kind.Take d = absurd (pair_going key value d.1.reports.1)
    pair_stored kind.Check d = by_ok report.ok (λ good. (d.1.passes good).at_key) (λ bad. absurd (pair_going key value (d.1.fails bad).0))
    pair_stored kind.Read d = reads d.1.knows.node.node d.1.whole d.1.sees
    pair_stored kind.Upgrade d = absurd (pair_going key value d.1.reports.1)
    pair_stored kind.Make (t, u, inl d) = absurd (pair_going key value d.reports.1)
    pair_stored kind.Make (t, u, inr d) = absurd (no_refusal call.progress d.reports.1)
    pair_stored kind.Write d = absurd d.1.reports
    pair_stored kind.Obsolete d = absurd (pair_going key value d.reports.1)
    pair_stored kind.Unlock d = absurd (pair_going key value d.reports.1)
    pair_stored kind.Answer d = absurd d.1.hears
    pair_stored kind.Finish d = absurd (pair_done key value d.reports.1)
    pair_stored kind.Reclaim d = absurd d

  pub given : (out : Outcome M) (k : Kind) → DoesAs Granted same old new id call env report out k → IsGiven old out
  given (Pair key value) k d = pair_stored key value k d
  given Going k d = tt
  given (Ask asked) k d = tt
  given (Decided reply) k d = tt
  given Refused k d = tt
  given Done k d = tt
  given Unknown k d = tt
