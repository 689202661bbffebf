-- SCHEDULES: which events are enabled, and what a run of a schedule is.
use Rattle.std.specs.Prelude.{◌≡◌, ℕ, Bool, ◌==◌, List, [], ◌∷◌, ◌++◌, map, Option, Some, None, IsSome}
use Rattle.node_table.specs.Charge.{Charge}
use Rattle.spec_map.specs.Call.{Operation, replied}
use Rattle.spec_map.specs.Legal.{IsLegal}
use Rattle.spec_map.specs.Map.{Pairs, lookup}
use Rattle.spec_map.specs.Refusal.{never}
use Rattle.node_base.specs.declared.base_node.NodeType.TheVariants.{N256}
use Rattle.spec_olc.specs.Calls.{map_call, map_asked, map_reply, asked_of}
use Rattle.spec_olc.specs.Content.{IsContent}
use Rattle.spec_olc.specs.Kinds.{IsStart, IsStep, IsReclaim, MayReclaim}
use Rattle.spec_olc.specs.State.{State, VersionedNode, CallState, unlinked, publish}
use Rattle.spec_olc.specs.WellFormed.{IsWellFormed}
use Rattle.spec_olc.specs.declared.trace.Decision.{Decision}
use Rattle.spec_olc.specs.declared.trace.Line.{Line}
use Rattle.spec_olc.specs.declared.trace.Line.TheVariants.{Done as Made, Skipped}
use Rattle.spec_olc.specs.declared.types.Event.{Event}
use Rattle.spec_olc.specs.declared.types.Event.TheVariants.{Start, Step, Reclaim}
use Rattle.spec_olc.specs.declared.types.Kind.TheVariants as kind
use Rattle.spec_olc.specs.declared.types.Kind.{Kind}
use Rattle.spec_olc.specs.declared.types.Asking.{Asking}
use Rattle.spec_olc.specs.declared.types.Op.{Op}
use Rattle.spec_olc.specs.declared.types.Reply.{Reply}
use Rattle.spec_olc.specs.declared.types.Outcome.{Outcome}
use Rattle.spec_olc.specs.declared.types.Outcome.TheVariants.{Going, Decided}
use Rattle.spec_olc.specs.declared.types.Report.{Report}
use Rattle.spec_olc.specs.declared.types.Seen.{Seen}

-- numbers are the same if they are equal
abbrev pub same_number : ℕ → ℕ → Bool
same_number x y = x == y

module _ {M : Type 0} where
  -- ENABLED: a Start of a free number, a Step of one in flight, a Reclaim of a slot that may be
  abbrev pub IsEnabled : State M → Event M → Type 0
  IsEnabled s (Start id op) = lookup s.calls id ≡ None
  IsEnabled s (Step id env) = IsSome (lookup s.calls id)
  IsEnabled s (Reclaim slot) = MayReclaim s slot

  abbrev pub bare_root : VersionedNode M
  bare_root = publish (unlinked (record { form = N256; prefix = []; children = [] }))

  -- A FRESH MACHINE: the root alone, with no call, no seat and nothing stored
  abbrev pub fresh : ℕ → Option Charge → State M
  fresh root charge = record {
    nodes = (root, bare_root) ∷ [];
    root = root;
    count = 0;
    calls = [];
    seats = [];
    entries = 0;
    charge = charge;
  }

-- what the call has seen, if the event is a Read
abbrev pub read_by : Kind → Option (CallState ℕ) → Option (Seen ℕ)
read_by kind.Read (Some call) = call.seen
read_by _ _ = None

-- what a step of a number decides, by the call that was in flight
abbrev pub decided_as : ℕ → Option (Op ℕ) → Asking ℕ → Reply ℕ → List Decision
decided_as id None asking reply = []
decided_as id (Some op) asking reply =
    (record { id = id; op = op; asked = asked_of asking; reply = reply }) ∷ []

abbrev pub decided_by : ℕ → Option (CallState ℕ) → Outcome ℕ → List Decision
decided_by id (Some call) (Decided reply) = decided_as id call.op call.asking reply
decided_by id _ _ = []

-- a decision as an operation of the map
abbrev pub operation_of : Decision → Operation ℕ ℕ ℕ
operation_of d = record {
  call = map_call d.op;
  asked = map_asked d.op d.asked;
  answer = replied (map_reply d.reply);
}

-- THE HISTORY: these decisions, one after another and none refused, are a legal run from m to n.
abbrev pub IsHistory : Pairs ℕ → List Decision → Pairs ℕ → Type 0
IsHistory m decided n = IsLegal same_number never m (map operation_of decided) n

-- one event of a schedule, its line, and the machine and the content after it
pub record Transition : Type 0 where
  pub event : Event ℕ
  pub line : Line
  pub after : State ℕ
  pub content : Pairs ℕ

-- the effect, report and outcome of an event that is done; a share of a number is never refused
abbrev pub Does : State ℕ → State ℕ → Event ℕ → Report → Outcome ℕ → Option (Seen ℕ) → Type 0
Does old new (Start id op) report out seen =
    IsStart old new id op report × (out ≡ Going) × (seen ≡ None)
Does old new (Step id env) report out seen =
    IsStep (Unit {0}) same_number old new id env report out
    × (seen ≡ read_by report.kind (lookup new.calls id))
Does old new (Reclaim slot) report out seen =
    IsReclaim old new slot report × (out ≡ Going) × (seen ≡ None)

-- what an event decides
abbrev pub decided_at : State ℕ → Event ℕ → Line → List Decision
decided_at old (Step id env) (Made report out seen) = decided_by id (lookup old.calls id) out
decided_at old event line = []

-- an enabled event is done; any other is skipped and changes nothing
abbrev pub Happens : State ℕ → Event ℕ → Line → State ℕ → Type 0
Happens old event (Made report out seen) new =
    IsEnabled old event × Does old new event report out seen
Happens old event Skipped new = (IsEnabled old event → ⊥) × (new ≡ old)

-- AN EVENT OF A RUN: the machine after it is well formed, and the content changes only by what the
-- event decides.
pub record IsEvent (old : State ℕ) (m : Pairs ℕ) (x : Transition) : Type 0 where
  pub happens : Happens old x.event x.line x.after
  pub history : IsHistory m (decided_at old x.event x.line) x.content
  pub content : IsContent x.after x.content
  pub well_formed : IsWellFormed x.after

-- A RUN: each event leads from the machine before it to the machine after it.
abbrev pub IsMachineRun : State ℕ → Pairs ℕ → List Transition → Pairs ℕ → Type 0
IsMachineRun old m [] n = n ≡ m
IsMachineRun old m (x ∷ xs) n = IsEvent old m x × IsMachineRun x.after x.content xs n

abbrev pub events_in : List Transition → List (Event ℕ)
events_in xs = map (λ x. x.event) xs

abbrev pub lines_in : List Transition → List Line
lines_in xs = map (λ x. x.line) xs

abbrev pub decided_in : State ℕ → List Transition → List Decision
decided_in old [] = []
decided_in old (x ∷ xs) = decided_at old x.event x.line ++ decided_in x.after xs
