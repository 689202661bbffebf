-- A step that decides a call decides one without a reply.
use Rattle.std.proofs.Common.{◌≡◌, ℕ, Bool, true, false, IsTrue, inl, inr, refl}
use Rattle.spec_node.specs.TableNode.{TableNode}
use Rattle.spec_olc.specs.Kinds.{DoesAs, ReadOutcome, refusal}
use Rattle.spec_olc.specs.Local.{IsLocal}
use Rattle.spec_olc.specs.State.{State, CallState}
use Rattle.spec_olc.specs.declared.types.Env.{Env}
use Rattle.spec_olc.specs.declared.types.Kind.TheVariants as kind
use Rattle.spec_olc.specs.declared.types.Kind.{Kind}
use Rattle.spec_olc.specs.declared.types.Outcome.TheVariants.{Going, Decided, Refused, Done}
use Rattle.spec_olc.specs.declared.types.Progress.TheVariants as progress
use Rattle.spec_olc.specs.declared.types.Progress.{Progress}
use Rattle.spec_olc.specs.declared.types.Reply.{Reply}
use Rattle.spec_olc.specs.declared.types.Report.{Report}

decided_going : {M : Type 0} (reply : Reply M) → Decided reply ≡ Going → ⊥
decided_going reply e = cc

decided_refused : {M : Type 0} (reply : Reply M) → Decided reply ≡ Refused → ⊥
decided_refused reply e = cc

decided_done : {M : Type 0} (reply : Reply M) → Decided reply ≡ Done → ⊥
decided_done reply e = cc

by_ok : {X : Type 0} → (ok : Bool) → (IsTrue ok → X) → (ok ≡ false → X) → X
by_ok true good bad = good refl
by_ok false good bad = bad refl

module _ {M : Type 0} (Granted : Type 0) (same : M → M → Bool) (old new : State M) (id : ℕ) (call : CallState M) (env : Env M) (report : Report) (reply : Reply M) where
  no_refusal : (p : Progress) → Decided reply ≡ refusal p → ⊥
  no_refusal progress.Open e = decided_refused reply e
  no_refusal progress.Decided e = decided_going reply e
  no_refusal progress.Refused e = decided_going reply e

  reads : (node : TableNode M) (whole : Bool) → ReadOutcome Granted same old new id call env report (Decided reply) node whole (Decided reply) → IsLocal Granted same call reply
  reads node true d = absurd d
  reads node false d = absurd d

  pub decided_local : (k : Kind) → DoesAs Granted same old new id call env report (Decided reply) k → IsLocal Granted same call reply
  decided_local kind.Start d = absurd d
  decided_local kind.Take d = absurd (decided_going reply d.1.reports.1)
  decided_local kind.Check d = by_ok report.ok (λ good. (d.1.passes good).0) (λ bad. absurd (decided_going reply (d.1.fails bad).0))
  decided_local kind.Read d = reads d.1.knows.node.node d.1.whole d.1.sees
  decided_local kind.Upgrade d = absurd (decided_going reply d.1.reports.1)
  decided_local kind.Make (t, u, inl d) = absurd (decided_going reply d.reports.1)
  decided_local kind.Make (t, u, inr d) = absurd (no_refusal call.progress d.reports.1)
  decided_local kind.Write d = d.1.reports
  decided_local kind.Obsolete d = absurd (decided_going reply d.reports.1)
  decided_local kind.Unlock d = absurd (decided_going reply d.reports.1)
  decided_local kind.Answer d = absurd d.1.hears
  decided_local kind.Finish d = absurd (decided_done reply d.reports.1)
  decided_local kind.Reclaim d = absurd d
