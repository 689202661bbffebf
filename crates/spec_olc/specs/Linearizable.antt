-- LINEARIZABLE: each point call that is decided takes effect at one event between its Start and its
-- Finish, its LINEARIZATION POINT, and these calls in the order of their points are a legal run of
-- one ordered map. (A call that is refused has no effect; ranges are in `Scans`.) Stated by the
-- schedule and its trace alone, without nodes, locks or slots. `Made` is `Line::Done`.
use Rattle.std.specs.Prelude.{◌≡◌, ◌≢◌, ℕ, ◌==◌, List, [], ◌∷◌, Option, Some, None, if◌then◌else◌}
use Rattle.spec_map.specs.Map.{Pairs, lookup}
use Rattle.spec_olc.specs.Calls.{IsPoint, key_of}
use Rattle.spec_olc.specs.Runs.{IsHistory}
use Rattle.spec_olc.specs.declared.trace.Decision.{Decision}
use Rattle.spec_olc.specs.declared.trace.Line.{Line}
use Rattle.spec_olc.specs.declared.trace.Line.TheVariants.{Done as Made, Skipped}
use Rattle.spec_olc.specs.declared.types.Asking.{Asking}
use Rattle.spec_olc.specs.declared.types.Asking.TheVariants.{Fresh, Wants, Given}
use Rattle.spec_olc.specs.declared.types.Event.{Event}
use Rattle.spec_olc.specs.declared.types.Event.TheVariants.{Start, Step, Reclaim}
use Rattle.spec_olc.specs.declared.types.Kind.{Kind}
use Rattle.spec_olc.specs.declared.types.Kind.TheVariants.{Answer}
use Rattle.spec_olc.specs.declared.types.Op.{Op}
use Rattle.spec_olc.specs.declared.types.Outcome.{Outcome}
use Rattle.spec_olc.specs.declared.types.Outcome.TheVariants.{Going, Ask, Pair, Decided, Refused, Done, Unknown}
use Rattle.spec_olc.specs.declared.types.Progress.{Progress}
use Rattle.spec_olc.specs.declared.types.Progress.TheVariants as progress
use Rattle.spec_olc.specs.declared.types.Reply.{Reply}

-- A PENDING CALL, as the trace so far shows it: the call as its Start has it; whether it is open;
-- the last question to its closure since its Start, and the answer, if it has one.
pub record PendingCall : Type 0 where
  pub op : Op ℕ
  pub progress : Progress
  pub asking : Asking ℕ

-- at its Start it is open, and its closure wasn't called
abbrev pub just_started : Op ℕ → PendingCall
just_started op = record { op = op; progress = progress.Open; asking = Fresh }

-- the pending calls by their numbers: at the beginning there are none
abbrev pub none_pending : ℕ → Option PendingCall
none_pending number = None

-- the same pending calls, but under one number this one, or none
abbrev pub with_pending
    : (ℕ → Option PendingCall) → ℕ → Option PendingCall → ℕ → Option PendingCall
with_pending calls id call number = if number == id then call else calls number

-- an Answer answers the last question, if that has no answer yet; no other event does
abbrev pub answered : Kind → Option ℕ → Asking ℕ → Asking ℕ
answered Answer answer (Wants old) = Given old answer
answered kind answer asking = asking

-- THE CALL AFTER A STEP of this kind, with this answer of its closure and this outcome; after the
-- last step it isn't pending any more
abbrev pub after_step : Kind → Option ℕ → Outcome ℕ → PendingCall → Option PendingCall
after_step kind answer (Ask old) call = Some (record call { asking = Wants old })
after_step kind answer (Decided reply) call = Some (record call { progress = progress.Decided })
after_step kind answer Refused call = Some (record call { progress = progress.Refused })
after_step kind answer Done call = None
after_step kind answer out call = Some (record call { asking = answered kind answer call.asking })

-- WHAT A STEP MAY REPORT where the map is m: a reply or a refusal only while its call is open, so
-- once at most; a question only while it is open, and with the key's current value; its end, of a
-- point call, only after that. Only a range gives pairs, which are the map's, and it is never decided.
abbrev pub MayReport : Pairs ℕ → PendingCall → Outcome ℕ → Type 0
MayReport m call (Ask old) = (call.progress ≡ progress.Open) × (old ≡ lookup m (key_of call.op))
MayReport m call (Pair key value) = (IsPoint call.op → ⊥) × (lookup m key ≡ Some value)
MayReport m call (Decided reply) = IsPoint call.op × (call.progress ≡ progress.Open)
MayReport m call Refused = call.progress ≡ progress.Open
MayReport m call Done = IsPoint call.op → call.progress ≢ progress.Open
MayReport m call Unknown = ⊥
MayReport m call out = Unit {0}

-- what a decision has of the closure, if anything, is the last question to it and the answer
abbrev pub IsLast : Option (Option ℕ × Option ℕ) → Asking ℕ → Type 0
IsLast None asking = Unit {0}
IsLast (Some (old, answer)) asking = asking ≡ Given old answer

-- THE DECISION of the pending call of this number, with this reply
pub record IsDecisionOf (id : ℕ) (call : PendingCall) (reply : Reply ℕ) (d : Decision)
    : Type 0 where
  pub number : d.id ≡ id
  pub op : d.op ≡ call.op
  pub asked : IsLast d.asked call.asking
  pub replied : d.reply ≡ reply

-- A step that reports a reply is a linearization point: its decision is the next one, which the map
-- m allows, and by which it becomes n. Any other step decides nothing and leaves the map.
abbrev pub Decides : ℕ → PendingCall → Outcome ℕ → List Decision → List Decision
    → Pairs ℕ → Pairs ℕ → Type 0
Decides id call (Decided reply) decided later m n =
    (d : Decision) × IsDecisionOf id call reply d × (decided ≡ d ∷ later) × IsHistory m (d ∷ []) n
Decides id call out decided later m n = (decided ≡ later) × (n ≡ m)

-- THE LINEARIZATION POINTS of a trace, from where these calls are pending and the map is m to its
-- end, where it is `last`: a call starts where none is pending under its number, only a pending
-- call has steps, and the decisions are those of the points in order. Any event may be skipped.
abbrev pub Linearizes : (ℕ → Option PendingCall) → Pairs ℕ
    → List (Event ℕ) → List Line → List Decision → Pairs ℕ → Type 0
Linearizes calls m [] [] [] last = last ≡ m
Linearizes calls m (Start id op ∷ events) (Made report out seen ∷ lines) decided last =
    (calls id ≡ None) × (out ≡ Going)
    × Linearizes (with_pending calls id (Some (just_started op))) m events lines decided last
Linearizes calls m (Step id env ∷ events) (Made report out seen ∷ lines) decided last =
    (call : PendingCall) × (later : List Decision) × (n : Pairs ℕ) × (calls id ≡ Some call)
    × MayReport m call out × Decides id call out decided later m n
    × Linearizes (with_pending calls id (after_step report.kind env.answer out call)) n
    events lines later last
Linearizes calls m (Reclaim slot ∷ events) (Made report out seen ∷ lines) decided last =
    (out ≡ Going) × Linearizes calls m events lines decided last
Linearizes calls m (event ∷ events) (Skipped ∷ lines) decided last =
    Linearizes calls m events lines decided last
Linearizes calls m _ _ _ last = ⊥

-- A LINEARIZABLE TRACE: its decisions are those of its points, from the empty map to the content.
abbrev pub IsLinearizable : List (Event ℕ) → List Line → List Decision → Pairs ℕ → Type 0
IsLinearizable events lines decided content = Linearizes none_pending [] events lines decided content
