-- WHAT A RANGE KNOWS before its next event, and the range after an event.
use Rattle.std.specs.Prelude.{Bool, ◌≡◌, ℕ, ◌+◌, ◌<◌, ◌-◌, ◌^◌, min, List, [], ◌∷◌, length, Option, Some, None, ◌⊎◌, ◌↔◌, IsTrue}
use Rattle.node_base.specs.Form.{Fits}
use Rattle.spec_map.specs.Map.{Pairs, between, lookup}
use Rattle.spec_node.specs.Key.{next_byte}
use Rattle.spec_node.specs.TableNode.{TableNode, Child}
use Rattle.spec_node.specs.declared.child.Child.TheVariants.{Payload}
use Rattle.spec_olc.specs.Calls.{bytes_of}
use Rattle.spec_olc.specs.Deciding.{ContentAfter}
use Rattle.spec_olc.specs.Kinds.{DoesAs}
use Rattle.spec_olc.specs.Local.{payload_in}
use Rattle.spec_olc.specs.Meaning.{child_of, env_of, in_some, outcome_of}
use Rattle.spec_olc.specs.Reading.{HasAll, MayGive}
use Rattle.spec_olc.specs.State.{CallState, State, with_call}
use Rattle.spec_olc.specs.declared.types.Env.{Env}
use Rattle.spec_olc.specs.declared.types.Kind.TheVariants as kind
use Rattle.spec_olc.specs.declared.types.Outcome.{Outcome}
use Rattle.spec_olc.specs.declared.types.Outcome.TheVariants.{Going, Pair, Refused}
use Rattle.spec_olc.specs.declared.types.Progress.TheVariants as progress
use Rattle.spec_olc.specs.declared.types.Report.{Report}
use Rattle.spec_olc.specs.declared.types.Seen.{Seen}
use Rattle.olc_state.specs.declared.stage.Spot.{Spot}
use Rattle.olc_state.specs.declared.stage.Task.{Task}
use Rattle.olc_state.specs.declared.store.Store.{Store}
use Rattle.olc_state.specs.inner.Meant.{meant_table, meant_task}
use Rattle.olc_state.specs.inner.Tables.{IsIn}
pub use Rattle.olc_state.specs.inner.ScanSpots.{spots_on, named_on}
pub use Rattle.olc_state.specs.inner.Scans.{IsRanging, LooksAt, GoesTo, LeadsFirst, IsAtNode, SawFirst, IsDone, ScanFacts}
use Rattle.olc_state.specs.inner.Tasks.{SawNode, closed, restarted}
use Rattle.olc_state.specs.inner.Turns.{ShowsNodes, NodeStays}
use Rattle.olc_state.specs.inner.World.{PlacedNode, NodeMap}
use Rattle.olc_state.specs.declared.scan.RangeProgress.{RangeProgress}
use Rattle.olc_state.specs.declared.scan.Scan.{Scan}
use Rattle.olc_state.specs.declared.scan.Scan.TheVariants.{TakeRoot, Read, Check, Finish}
use Rattle.olc_scan.specs.declared.course.Scanned.{Scanned}

module _ {M : Type 0} where
  -- a range in flight with this pin
  abbrev pub flight_on : ℕ → Task M → RangeProgress → Scan → CallState M
  flight_on pin task course scan = record {
    outline = task.outline;
    op = task.op;
    pin = pin;
    cursor = course.cursor;
    reach = course.reach;
    given = course.given;
    cleaning = None;
    remembered = spots_on scan;
    seen = task.last;
    asking = task.asking;
    progress = task.progress;
    held = [];
    made = [];
  }

  -- the last Read reported this slot, and its node's word is the remembered one
  abbrev pub MayFollowScan : NodeMap M → Scan → Option (Seen M) → ℕ → Type 0
  MayFollowScan t (Check spot) last slot = SawNode last slot × NodeStays t spot
  MayFollowScan t scan last slot = ⊥

-- `Granted`: shares are never refused. `same`: the test by which values are compared.
module _ {M : Type 0} (Granted : Type 0) (same : M → M → Bool) where
  -- ONE EVENT OF A RANGE, in any state that shows these nodes
  pub record IsScanned (t : NodeMap M) (root pin : ℕ) (task : Task M) (course : RangeProgress) (scan : Scan)
      (env : Env M) (task' : Task M) (course' : RangeProgress) (scan' : Scan) (report : Report)
      (out : Outcome M) : Type 0 where
    pub facts : ScanFacts t root pin task' course' scan'
    pub outline : task'.outline ≡ task.outline
    pub touches : (slot : ℕ) → report.slot ≡ Some slot → (slot ≡ root) ⊎ IsIn slot (named_on scan)
    pub names : (slot : ℕ) → IsIn slot (named_on scan')
        → (slot ≡ root) ⊎ (IsIn slot (named_on scan) ⊎ MayFollowScan t scan task.last slot)
    pub reads : (slot : ℕ) → MayFollowScan t scan' task'.last slot → report.kind ≡ kind.Read
    pub keeps : (slot word : ℕ) → lookup (spots_on scan') slot ≡ Some word
        → (lookup (spots_on scan) slot ≡ Some word) ⊎ ((a : PlacedNode M) → t slot ≡ Some a → a.word ≡ word)
    pub leaves : (m : Pairs M) → ContentAfter same m m (flight_on pin task course scan) out
    pub does : (s : State M) (id : ℕ) → ShowsNodes t root s → DoesAs Granted same s
        (with_call s id (flight_on pin task' course' scan')) id (flight_on pin task course scan) env
        report out report.kind

-- a range that has passed all keys below this one, and one that has returned a pair with this key
abbrev pub moved_to : RangeProgress → ℕ → RangeProgress
moved_to course from = record { cursor = from; reach = from; given = course.given }

abbrev pub past_pair : RangeProgress → ℕ → RangeProgress
past_pair course key = record { cursor = key + 1; reach = key + 1; given = course.given + 1 }

-- the first child of a list of children
abbrev pub first_in : {C : Type 0} → List (ℕ × C) → Option C
first_in [] = None
first_in (e ∷ es) = Some e.1

-- a range after an event, and what the event reports
pub record AfterScan (P : Type 0) : Type 0 where
  pub task : Task P
  pub course : RangeProgress
  pub scan : Scan
  pub report : Report
  pub outcome : Outcome P

module _ {P : Type 0} where
  abbrev pub after_scan : Task P → Scanned P → AfterScan P
  after_scan task scanned = record {
    task = task;
    course = scanned.course;
    scan = scanned.scan;
    report = scanned.report;
    outcome = scanned.outcome;
  }

  -- the range after a Read that saw `seen` and keeps `spare`
  abbrev pub looked : Task P → Seen P → Option P → Task P
  looked task seen spare = record task { last = Some seen; spare = spare; question = None }

  abbrev pub scan_goes_on : Task P → RangeProgress → Scan → Report → Outcome P → AfterScan P
  scan_goes_on task course scan report out =
      record { task = task; course = course; scan = scan; report = report; outcome = out }

  -- the first child of a node under which a key from `reach` on may be stored
  abbrev pub first_of : TableNode P → ℕ → Option (Child P)
  first_of node reach =
      first_in (between node.children (next_byte node.prefix (bytes_of reach)) 256)

  -- the range after it has passed all keys up to this one
  pub record IsPast (task : Task P) (course : RangeProgress) (last : ℕ) (report : Report)
      (next : AfterScan P) : Type 0 where
    pub from : ℕ
    pub from_is : from ≡ min (last + 1) (2 ^ 64 - 1)
    pub is : (HasAll task.outline from course.given
        × (next ≡ scan_goes_on task (moved_to course from) Finish report Going))
        ⊎ (next ≡ scan_goes_on (restarted task) (moved_to course from) TakeRoot report Going)

  -- the range after it has found a payload with this key, whose last byte is `byte`
  abbrev pub unreported : Task P → Task P
  unreported task = record task { spare = None }

  pub record Gave (task : Task P) (course : RangeProgress) (here : Spot) (key byte : ℕ) (report : Report)
      (next : AfterScan P) : Type 0 where
    pub may : MayGive task.outline course.given key
    pub value : P
    pub kept : task.spare ≡ Some value
    pub small : key + 1 < 2 ^ 64
    pub is : (HasAll task.outline (key + 1) (course.given + 1)
        × (next ≡ scan_goes_on (unreported task) (past_pair course key) Finish report (Pair key value)))
        ⊎ ((next ≡ scan_goes_on (restarted task) (past_pair course key) TakeRoot report (Pair key value))
        ⊎ ((byte < 255)
        × (next ≡ scan_goes_on (unreported task) (past_pair course key) (Read here) report (Pair key value))))

  abbrev pub IsPaired : Task P → RangeProgress → Spot → ℕ → ℕ → Report → AfterScan P → Type 0
  IsPaired task course here key byte report next =
      ((MayGive task.outline course.given key → ⊥) × (key < 2 ^ 64)
      × (next ≡ scan_goes_on task (record course { reach = key }) Finish report Going))
      ⊎ Gave task course here key byte report next

module _ {P M : Type 0} (Granted : Type 0) (meaning : P → M) where
  -- the range after a whole Read of a node: it saw the first child from its reach on, and keeps
  -- one more share of a payload
  pub record LooksAtFirst (node : TableNode P) (task : Task P) (course : RangeProgress) (here : Spot)
      (report : Report) (next : AfterScan P) : Type 0 where
    pub seen : Seen P
    pub spare : Option P
    pub child : in_some (child_of meaning) seen.child
        ≡ in_some (child_of meaning) (first_of node course.reach)
    pub kept : in_some meaning spare
        ≡ payload_in (in_some (child_of meaning) (first_of node course.reach))
    pub count : seen.count ≡ length node.children
    pub full : IsTrue seen.full ↔ (Fits node.form (length node.children + 1) → ⊥)
    pub is : next ≡ scan_goes_on (looked task seen spare) course (Check here) report Going

  -- the same, or a share was refused
  abbrev pub IsLooked : TableNode P → Task P → RangeProgress → Spot → Report → AfterScan P → Type 0
  IsLooked node task course here report next = LooksAtFirst node task course here report next
      ⊎ ((Granted → ⊥) × ((v : P) × (first_of node course.reach ≡ Some (Payload v)))
      × (next ≡ scan_goes_on (closed progress.Refused task) course Finish report Refused))

module _ {P M : Type 0} (Granted : Type 0) (same : M → M → Bool) (meaning : P → M) where
  -- the same over the code's own payloads
  abbrev pub KnowsScan : Store P → ℕ → Task P → RangeProgress → Scan → Type 0
  KnowsScan store pin task course scan =
      ScanFacts (meant_table meaning store) store.root pin (meant_task meaning task) course scan

  abbrev pub ScansOn : Store P → ℕ → Task P → RangeProgress → Scan → Env P → AfterScan P → Type 0
  ScansOn store pin task course scan env next = IsScanned Granted same (meant_table meaning store)
      store.root pin (meant_task meaning task) course scan (env_of meaning env)
      (meant_task meaning next.task) next.course next.scan next.report
      (outcome_of meaning next.outcome)
