-- A call that is decided or refused keeps no payload; what an Answer, a Check and a range's reach imply.
use Rattle.std.proofs.Common.{◌≡◌, ℕ, ◌<◌, ◌≤◌, Bool, true, false, IsTrue, Some, None, IsSome, inl, inr, refl, sym, subst, ap, ◌∙◌, arith}
use Rattle.spec_map.specs.Map.{lookup}
use Rattle.spec_node.specs.TableNode.{TableNode}
use Rattle.spec_olc.proofs.Steps.{call_after}
use Rattle.spec_olc.specs.Calls.{Outline}
use Rattle.spec_olc.specs.Content.{IsStoredAt}
use Rattle.spec_olc.specs.Kinds.{Answers, NextIs, Checks, DoesAs, CheckOutcome, AnswerOutcome, ReadOutcome, SharesAnswer, refusal, refused}
use Rattle.spec_olc.specs.Local.{LeavesAll}
use Rattle.spec_olc.specs.Reading.{LooksOn, MovesOn, Remembered}
use Rattle.spec_olc.specs.State.{State, CallState}
use Rattle.spec_olc.specs.declared.types.Asking.TheVariants.{Fresh}
use Rattle.spec_olc.specs.declared.types.Env.{Env}
use Rattle.spec_olc.specs.declared.types.Kind.TheVariants as kind
use Rattle.spec_olc.specs.declared.types.Kind.{Kind}
use Rattle.spec_olc.specs.declared.types.Op.TheVariants.{Range}
use Rattle.spec_olc.specs.declared.types.Op.{Op}
use Rattle.spec_olc.specs.declared.types.Outcome.TheVariants.{Going, Decided, Refused, Done}
use Rattle.spec_olc.specs.declared.types.Outcome.{Outcome}
use Rattle.spec_olc.specs.declared.types.Progress.TheVariants as progress
use Rattle.spec_olc.specs.declared.types.Progress.{Progress}
use Rattle.spec_olc.specs.declared.types.Reply.{Reply}
use Rattle.spec_olc.specs.declared.types.Report.{Report}

some_is : {X : Type 0} (x y : X) → Some x ≡ Some y → x ≡ y
some_is x y e = cc

decided_going : {M : Type 0} (reply : Reply M) → Decided reply ≡ Going → ⊥
decided_going reply e = cc

decided_refused : {M : Type 0} (reply : Reply M) → Decided reply ≡ Refused → ⊥
decided_refused reply e = cc

decided_done : {M : Type 0} (reply : Reply M) → Decided reply ≡ Done → ⊥
decided_done reply e = cc

refused_going : {M : Type 0} → ◌≡◌ {A = Outcome M} Refused Going → ⊥
refused_going e = cc

refused_done : {M : Type 0} → ◌≡◌ {A = Outcome M} Refused Done → ⊥
refused_done e = cc

pub by_ok : {X : Type 0} → (ok : Bool) → (IsTrue ok → X) → (ok ≡ false → X) → X
by_ok true good bad = good refl
by_ok false good bad = bad refl

module _ {M : Type 0} where
  -- no payload is left
  abbrev pub IsBare : CallState M → Type 0
  IsBare f = (f.op ≡ None) × (f.asking ≡ Fresh)

  no_refusal : (reply : Reply M) (p : Progress) → Decided reply ≡ refusal p → ⊥
  no_refusal reply progress.Open e = decided_refused reply e
  no_refusal reply progress.Decided e = decided_going reply e
  no_refusal reply progress.Refused e = decided_going reply e

  bare_if_refused : (p : Progress) (f : CallState M) → Refused ≡ refusal {M = M} p → IsBare (refused p f)
  bare_if_refused progress.Open f e = (refl, refl)
  bare_if_refused progress.Decided f e = absurd (refused_going e)
  bare_if_refused progress.Refused f e = absurd (refused_going e)

  module _ (Granted : Type 0) (same : M → M → Bool) (old new : State M) (id : ℕ) (call next : CallState M) (env : Env M) (report : Report) (there : lookup new.calls id ≡ Some next) where
    bare : (out : Outcome M) (base : State M) (planned : CallState M) → NextIs Granted same old new id call env report out base planned → IsBare planned → IsBare next
    bare out base planned b is =
        subst IsBare (call_after base new id b.next next b.after there) (ap (λ (f : CallState M). f.op) b.is ∙ is.0, ap (λ (f : CallState M). f.asking) b.is ∙ is.1)

    reads_decided : (reply : Reply M) (node : TableNode M) (whole : Bool) → ReadOutcome Granted same old new id call env report (Decided reply) node whole (Decided reply) → IsBare next
    reads_decided reply node true d = absurd d
    reads_decided reply node false d = absurd d

    pub decided_bare : (reply : Reply M) (k : Kind) → DoesAs Granted same old new id call env report (Decided reply) k → IsBare next
    decided_bare reply kind.Start d = absurd d
    decided_bare reply kind.Take d = absurd (decided_going reply d.1.reports.1)
    decided_bare reply kind.Check d =
        by_ok report.ok
        (λ good. bare (Decided reply) old d.1.planned d.1.becomes (subst IsBare (sym (d.1.passes good).2) (refl, refl)))
        (λ bad. absurd (decided_going reply (d.1.fails bad).0))
    decided_bare reply kind.Read d = reads_decided reply d.1.knows.node.node d.1.whole d.1.sees
    decided_bare reply kind.Upgrade d = absurd (decided_going reply d.1.reports.1)
    decided_bare reply kind.Make (t, may, inl d) = absurd (decided_going reply d.reports.1)
    decided_bare reply kind.Make (t, may, inr d) = absurd (no_refusal reply call.progress d.reports.1)
    decided_bare reply kind.Write d = bare (Decided reply) _ _ d.1.becomes (refl, refl)
    decided_bare reply kind.Obsolete d = absurd (decided_going reply d.reports.1)
    decided_bare reply kind.Unlock d = absurd (decided_going reply d.reports.1)
    decided_bare reply kind.Answer d = absurd d.1.hears
    decided_bare reply kind.Finish d = absurd (decided_done reply d.reports.1)
    decided_bare reply kind.Reclaim d = absurd d

    reads_refused : (node : TableNode M) (whole : Bool) → ReadOutcome Granted same old new id call env report Refused node whole Refused → IsBare next
    reads_refused node true d = bare Refused old _ d.3.becomes (refl, refl)
    reads_refused node false d = absurd d

    pub refused_bare : (k : Kind) → DoesAs Granted same old new id call env report Refused k → IsBare next
    refused_bare kind.Start d = absurd d
    refused_bare kind.Take d = absurd (refused_going d.1.reports.1)
    refused_bare kind.Check d = by_ok report.ok (λ good. absurd (d.1.passes good)) (λ bad. absurd (refused_going (d.1.fails bad).0))
    refused_bare kind.Read d = reads_refused d.1.knows.node.node d.1.whole d.1.sees
    refused_bare kind.Upgrade d = absurd (refused_going d.1.reports.1)
    refused_bare kind.Make (t, may, inl d) = absurd (refused_going d.reports.1)
    refused_bare kind.Make (t, may, inr d) = bare Refused _ _ d.becomes (bare_if_refused call.progress _ d.reports.1)
    refused_bare kind.Write d = absurd d.1.reports
    refused_bare kind.Obsolete d = absurd (refused_going d.reports.1)
    refused_bare kind.Unlock d = absurd (refused_going d.reports.1)
    refused_bare kind.Answer d = bare Refused old _ d.1.hears.2.becomes (refl, refl)
    refused_bare kind.Finish d = absurd (refused_done d.reports.1)
    refused_bare kind.Reclaim d = absurd d

  module _ (Granted : Type 0) (same : M → M → Bool) (old new : State M) (id : ℕ) (call : CallState M) (env : Env M) (report : Report) (out : Outcome M) where
    pub refused_answer : (a : Answers Granted same old new id call env report out) → out ≡ Refused → SharesAnswer call.outline × IsSome env.answer
    refused_answer a e =
        let h : AnswerOutcome Granted same old new id call env report out a.asked Refused = subst (λ (o : Outcome M). AnswerOutcome Granted same old new id call env report out a.asked o) e a.hears in
        (h.0, h.1)

    pub leaves_all : (c : Checks Granted same old new id call env report out) → IsTrue report.ok → (reply : Reply M) → out ≡ Decided reply → (op : Op M) → call.op ≡ Some op → LeavesAll Granted same call op
    leaves_all c ok reply e op is =
        let f : CheckOutcome Granted same old call c.knows c.planned (Decided reply) = subst (λ (o : Outcome M). CheckOutcome Granted same old call c.knows c.planned o) e (c.passes ok) in
        subst (λ (o : Op M). LeavesAll Granted same call o) (some_is f.0.op op (sym f.0.op_is ∙ is)) f.1

    moved : (a : Remembered old call) (planned : CallState M) → MovesOn old call a planned → (key : ℕ) (value : M) → call.reach ≤ key → key < planned.reach → IsStoredAt old key value → ⊥
    moved a planned m key value low high at_key =
        elim m.next_is [
          | inl e ↦ m.passed key value low (subst (λ (f : CallState M). key < f.reach) e high) at_key
          | inr e ↦ let below : key < m.cursor = subst (λ (f : CallState M). key < f.reach) e high in m.passed key value low (omega (arith, below, m.order)) at_key
        ]

    pub reach_passes_nothing : (a b n : ℕ) → call.outline ≡ Range a b n → (c : Checks Granted same old new id call env report out) → IsTrue report.ok → out ≡ Going
        → (key : ℕ) (value : M) → call.reach ≤ key → key < c.planned.reach → IsStoredAt old key value → ⊥
    reach_passes_nothing a b n range c ok e =
        moved c.knows c.planned (subst (λ (o : Outline). LooksOn o old call c.knows c.planned) range (subst (λ (o : Outcome M). CheckOutcome Granted same old call c.knows c.planned o) e (c.passes ok)))
