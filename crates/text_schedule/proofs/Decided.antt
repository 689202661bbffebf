-- The decided calls of a replayed schedule are those that its lines contain.
use Rattle.std.proofs.Common.{◌≡◌, ℕ, Bool, true, false, IsTrue, List, [], ◌∷◌, map, Some, inl, inr, refl, sym, ap, ◌∙◌}
use Rattle.std.proofs.lemmas.List.{map-append}
use Rattle.spec_map.specs.Map.{Pairs}
use Rattle.spec_node.specs.TableNode.{TableNode}
use Rattle.spec_olc.specs.Kinds.{DoesAs, ReadOutcome, refusal}
use Rattle.spec_olc.specs.Replay.{IsReplayed}
use Rattle.spec_olc.specs.Runs.{Transition, IsMachineRun, Happens, same_number, decided_at, decided_by, decided_in, events_in, lines_in}
use Rattle.spec_olc.specs.State.{State, CallState}
use Rattle.spec_olc.specs.declared.trace.Decision.{Decision}
use Rattle.spec_olc.specs.declared.trace.Line.{Line}
use Rattle.spec_olc.specs.declared.trace.Line.TheVariants.{Done as Made, Skipped}
use Rattle.spec_olc.specs.declared.types.Env.{Env}
use Rattle.spec_olc.specs.declared.types.Event.{Event}
use Rattle.spec_olc.specs.declared.types.Event.TheVariants.{Start, Step, Reclaim}
use Rattle.spec_olc.specs.declared.types.Kind.TheVariants as kind
use Rattle.spec_olc.specs.declared.types.Kind.{Kind}
use Rattle.spec_olc.specs.declared.types.Op.{Op}
use Rattle.spec_olc.specs.declared.types.Outcome.{Outcome}
use Rattle.spec_olc.specs.declared.types.Outcome.TheVariants.{Going, Ask, Pair, Decided, Refused, Done, Unknown}
use Rattle.spec_olc.specs.declared.types.Progress.TheVariants as progress
use Rattle.spec_olc.specs.declared.types.Progress.{Progress}
use Rattle.spec_olc.specs.declared.types.Reply.{Reply}
use Rattle.spec_olc.specs.declared.types.Report.{Report}
use Rattle.spec_text.specs.Texts.{reply_in_line, replies_in_lines, number_and_reply}

abbrev is_decided : Outcome ℕ → Bool
is_decided (Decided reply) = true
is_decided _ = false

true_false : true ≡ false → ⊥
true_false e = cc

-- an outcome that isn't a reply
other : {X : Type 0} (reply : Reply ℕ) (out : Outcome ℕ) → is_decided out ≡ false → Decided reply ≡ out → X
other reply out is e = absurd (true_false (ap is_decided e ∙ is))

no_refusal : (p : Progress) → is_decided (refusal p) ≡ false
no_refusal progress.Open = refl
no_refusal progress.Decided = refl
no_refusal progress.Refused = refl

by_ok : {X : Type 0} → (ok : Bool) → (IsTrue ok → X) → (ok ≡ false → X) → X
by_ok true good bad = good refl
by_ok false good bad = bad refl

module _ (old new : State ℕ) (id : ℕ) (call : CallState ℕ) (env : Env ℕ) (report : Report) where
  -- the call still has its payloads
  abbrev HasOp : Type 0
  HasOp = (op : Op ℕ) × (call.op ≡ Some op)

  read_decides : (reply : Reply ℕ) (node : TableNode ℕ) (whole : Bool) → ReadOutcome (Unit {0}) same_number old new id call env report (Decided reply) node whole (Decided reply) → HasOp
  read_decides reply node true d = absurd d
  read_decides reply node false d = absurd d

  -- what decides is a Check that passes or a Write
  decides : (reply : Reply ℕ) (k : Kind) → DoesAs (Unit {0}) same_number old new id call env report (Decided reply) k → HasOp
  decides reply kind.Start d = absurd d
  decides reply kind.Take d = other reply _ refl d.1.reports.1
  decides reply kind.Check d = by_ok report.ok (λ good. let local = (d.1.passes good).0 in (local.op, local.op_is)) (λ bad. other reply _ refl (d.1.fails bad).0)
  decides reply kind.Read d = read_decides reply d.1.knows.node.node d.1.whole d.1.sees
  decides reply kind.Upgrade d = other reply _ refl d.1.reports.1
  decides reply kind.Make (t, may, inl d) = other reply _ refl d.reports.1
  decides reply kind.Make (t, may, inr d) = other reply _ (no_refusal call.progress) d.reports.1
  decides reply kind.Write d = (d.1.reports.op, d.1.reports.op_is)
  decides reply kind.Obsolete d = other reply _ refl d.reports.1
  decides reply kind.Unlock d = other reply _ refl d.reports.1
  decides reply kind.Answer d = absurd d.1.hears
  decides reply kind.Finish d = other reply _ refl d.reports.1
  decides reply kind.Reclaim d = absurd d

  outcome_decides : (out : Outcome ℕ) (seen : _) → DoesAs (Unit {0}) same_number old new id call env report out report.kind
      → reply_in_line (Step id env) (Made report out seen) ≡ map number_and_reply (decided_by id (Some call) out)
  outcome_decides (Decided reply) seen d = rw (decides reply report.kind d).1 refl
  outcome_decides Going seen d = refl
  outcome_decides (Ask asked) seen d = refl
  outcome_decides (Pair key value) seen d = refl
  outcome_decides Refused seen d = refl
  outcome_decides Done seen d = refl
  outcome_decides Unknown seen d = refl

line_decides : (old new : State ℕ) (event : Event ℕ) (line : Line) → Happens old event line new → reply_in_line event line ≡ map number_and_reply (decided_at old event line)
line_decides old new (Start id op) Skipped h = refl
line_decides old new (Step id env) Skipped h = refl
line_decides old new (Reclaim slot) Skipped h = refl
line_decides old new (Start id op) (Made report out seen) h = refl
line_decides old new (Reclaim slot) (Made report out seen) h = refl
line_decides old new (Step id env) (Made report out seen) h =
    let step = h.1.0 in
    rw step.in_flight (outcome_decides old new id step.call env report out seen step.event)

run_decides : (old : State ℕ) (m n : Pairs ℕ) (xs : List Transition) → IsMachineRun old m xs n → replies_in_lines (events_in xs) (lines_in xs) ≡ map number_and_reply (decided_in old xs)
run_decides old m n [] run = refl
run_decides old m n (x ∷ xs) run =
    rw (line_decides old x.after x.event x.line run.0.happens, run_decides x.after x.content n xs run.1)
    (sym (map-append number_and_reply (decided_at old x.event x.line) (decided_in x.after xs)))

pub lines_decide : (events : List (Event ℕ)) (lines : List Line) (decided : List Decision) (content : Pairs ℕ) → IsReplayed events lines decided content
    → replies_in_lines events lines ≡ map number_and_reply decided
lines_decide events lines decided content r = rw (← r.run.events_are, ← r.run.lines_are, ← r.run.decided_are) (run_decides _ _ _ r.run.entries r.run.steps)
