-- If shares are always granted, only a call that may make nodes is refused.
use Rattle.std.proofs.Common.{◌≡◌, ℕ, Bool, true, false, IsTrue, Some, refl, sym, subst, ◌∙◌}
use Rattle.spec_map.specs.Map.{lookup}
use Rattle.spec_node.specs.TableNode.{TableNode}
use Rattle.spec_olc.specs.Kinds.{Checks, DoesAs, CheckOutcome, AnswerOutcome, IsStep, MayMake, ReadOutcome, WriteOutcome}
use Rattle.spec_olc.specs.State.{CallState, State}
use Rattle.spec_olc.specs.declared.types.Env.{Env}
use Rattle.spec_olc.specs.declared.types.Kind.TheVariants as kind
use Rattle.spec_olc.specs.declared.types.Kind.{Kind}
use Rattle.spec_olc.specs.declared.types.Outcome.TheVariants as outcome
use Rattle.spec_olc.specs.declared.types.Outcome.{Outcome}
use Rattle.spec_olc.specs.declared.types.Report.{Report}

some_is : {X : Type 0} (x y : X) → Some x ≡ Some y → x ≡ y
some_is x y e = cc

module _ {M : Type 0} (Granted : Type 0) (same : M → M → Bool) (old new : State M) (id : ℕ) (call : CallState M) (env : Env M) (report : Report) (out : Outcome M) (granted : Granted) (refused : out ≡ outcome.Refused) where
  not_going : out ≡ outcome.Going → ⊥
  not_going e = let is : outcome.Refused ≡ outcome.Going = sym refused ∙ e in cc

  not_done : out ≡ outcome.Done → ⊥
  not_done e = let is : outcome.Refused ≡ outcome.Done = sym refused ∙ e in cc

  checked : (ok : Bool) (c : Checks Granted same old new id call env report out) → report.ok ≡ ok → ⊥
  checked true c e = subst (λ (o : Outcome M). CheckOutcome Granted same old call c.knows c.planned o) refused (c.passes (subst (λ (z : Bool). IsTrue z) (sym e) refl))
  checked false c e = not_going (c.fails e).0

  shared : (node : TableNode M) (whole : Bool) → ReadOutcome Granted same old new id call env report out node whole outcome.Refused → ⊥
  shared node true d = d.3.granted granted
  shared node false d = d

  pub makes : (k : Kind) → DoesAs Granted same old new id call env report out k → MayMake call
  makes kind.Start d = absurd d
  makes kind.Take d = absurd (not_going d.1.reports.1)
  makes kind.Check d = absurd (checked report.ok d.1 refl)
  makes kind.Read d = absurd (shared d.1.knows.node.node d.1.whole (subst (λ (o : Outcome M). ReadOutcome Granted same old new id call env report out d.1.knows.node.node d.1.whole o) refused d.1.sees))
  makes kind.Upgrade d = absurd (not_going d.1.reports.1)
  makes kind.Make d = d.1
  makes kind.Write d = absurd (subst (λ (o : Outcome M). WriteOutcome Granted same call o) refused d.1.reports)
  makes kind.Obsolete d = absurd (not_going d.reports.1)
  makes kind.Unlock d = absurd (not_going d.reports.1)
  makes kind.Answer d =
      let h = subst (λ (o : Outcome M). AnswerOutcome Granted same old new id call env report out d.1.asked o) refused d.1.hears in
      absurd (h.2.granted granted)
  makes kind.Finish d = absurd (not_done d.reports.1)
  makes kind.Reclaim d = absurd d

pub refused_makes : {M : Type 0} (Granted : Type 0) (same : M → M → Bool) (old new : State M) (id : ℕ) (call : CallState M) (env : Env M) (report : Report) → Granted → lookup old.calls id ≡ Some call
    → IsStep Granted same old new id env report outcome.Refused → MayMake call
refused_makes Granted same old new id call env report granted here step =
    let one : step.call ≡ call = some_is step.call call (sym step.in_flight ∙ here) in
    makes Granted same old new id call env report outcome.Refused granted refl report.kind
    (subst (λ (f : CallState _). DoesAs Granted same old new id f env report outcome.Refused report.kind) one step.event)
