-- ONE EVENT as the machine's inside has it: what it leaves to its own call and to all others, and
-- what it does to what a reader sees. The kinds of events are proved to be of this form, and the
-- theorem on runs is proved from it.
use Rattle.std.specs.Prelude.{[], false, true, if◌then◌else◌, ◌≡◌, ◌≢◌, ℕ, ◌+◌, ◌-◌, ◌*◌, ◌<◌, ◌≤◌, Bool, length, Option, Some, None, ◌⊎◌}
use Rattle.spec_map.specs.Map.{Pairs, lookup}
use Rattle.spec_olc.specs.Alone.{may_remove}
use Rattle.spec_olc.specs.Calls.{IsPoint, Outline, outline_of}
use Rattle.spec_olc.specs.Content.{IsContent}
use Rattle.spec_olc.specs.Deciding.{ContentAfter, IsContentStep}
use Rattle.spec_olc.specs.Kinds.{DoesAs, IsReclaim, IsStart, IsStep, report_of}
use Rattle.spec_olc.specs.State.{State, with_call}
use Rattle.spec_olc.specs.declared.types.Env.{Env}
use Rattle.spec_olc.specs.declared.types.Kind.TheVariants as kind
use Rattle.spec_olc.specs.declared.types.Kind.{Kind}
use Rattle.spec_olc.specs.declared.types.Op.{Op}
use Rattle.spec_olc.specs.declared.types.Outcome.{Outcome}
use Rattle.spec_olc.specs.declared.types.Outcome.TheVariants.{Done}
use Rattle.spec_olc.specs.declared.types.Progress.{Progress}
use Rattle.spec_olc.specs.declared.types.Progress.TheVariants.{Open}
use Rattle.spec_olc.specs.declared.types.Report.{Report}
use Rattle.spec_olc.specs.declared.types.Seen.{Seen}
use Rattle.olc_words.specs.Epoch.{pin_of}
use Rattle.spec_olc.specs.Lock.{version, last_version}
use Rattle.olc_state.specs.declared.stage.Record.{Record}
use Rattle.olc_state.specs.declared.stage.Spot.{Spot}
use Rattle.olc_state.specs.declared.stage.Stage.{Stage}
use Rattle.olc_state.specs.declared.stage.Stage.TheVariants.{TakeRoot, Read, Check, TakeBelow, CheckAbove, Answer, Confirm, Tail, Scan, Seek, Tidy, Finish}
use Rattle.olc_state.specs.declared.cleanup.Seek.{Seek as CleanupSeek}
use Rattle.olc_state.specs.declared.cleanup.Seek.TheVariants as seek
use Rattle.olc_state.specs.declared.scan.Scan.TheVariants as scan
use Rattle.olc_state.specs.inner.CleanupStages.{seek_work, tidy_work}
use Rattle.olc_state.specs.inner.Scans.{BeginsAt, IsAtEnd}
use Rattle.olc_state.specs.inner.Tables.{Guarantees, NeedsHolder, IsIn}
use Rattle.olc_state.specs.inner.Tasks.{SawNode}
use Rattle.olc_state.specs.inner.Facts.{Holding, named_at, Facts, IsSoundWorld}
use Rattle.olc_state.specs.inner.Shown.{shown, flight, held_at, made_at, spots_of, state_of}
use Rattle.olc_state.specs.inner.Tails.{case_work, tail_work}
use Rattle.olc_state.specs.inner.World.{World, PlacedNode, NodeMap, table_of, record_of}

-- what a call without a reply may have to clean up: two nodes, if it may remove its key
abbrev pub cleanup_work : Progress → Outline → ℕ
cleanup_work Open outline = if may_remove outline then 70 else 0
cleanup_work _ outline = 0

module _ {M : Type 0} where
  -- the length of the prefix of the node in a slot
  abbrev pub depth_in : Option (PlacedNode M) → ℕ
  depth_in None = 0
  depth_in (Some a) = length a.node.prefix

  -- the length of the prefix of the node that a cleanup is at on its way down
  abbrev pub seek_depth : NodeMap M → CleanupSeek → ℕ
  seek_depth t (seek.Read path) = depth_in (t path.here.slot)
  seek_depth t (seek.Check path) = depth_in (t path.here.slot)
  seek_depth t (seek.TakeBelow path slot) = depth_in (t path.here.slot)
  seek_depth t (seek.CheckAbove path spot fits) = depth_in (t path.here.slot)
  seek_depth t seek.TakeRoot = 0

  -- how many events of its own a call at this stage has left at most if it runs alone, without those
  -- of a cleanup that it may have to begin
  abbrev pub work : NodeMap M → Progress → Stage → ℕ
  work t progress TakeRoot = 39
  work t progress (Read path) = 4 * (7 - depth_in (t path.here.slot)) + 10
  work t progress (Check path) = 4 * (7 - depth_in (t path.here.slot)) + 9
  work t progress (TakeBelow path slot) = 4 * (7 - depth_in (t path.here.slot)) + 8
  work t progress (CheckAbove path spot fits) = 4 * (7 - depth_in (t path.here.slot)) + 7
  work t progress (Answer case) = case_work case
  work t progress (Confirm spot) = 2
  work t progress (Tail tail) = tail_work progress tail
  work t progress (Scan course scan) = 1
  work t progress (Seek c seek) = seek_work c seek (seek_depth t seek)
  work t progress (Tidy c tidy) = tidy_work c tidy
  work t progress Finish = 1

  abbrev pub work_of : NodeMap M → Record M → ℕ
  work_of t call = work t call.task.progress call.stage + cleanup_work call.task.progress call.task.outline

  -- each word that a call remembers is still the current word of its node
  abbrev pub AllCurrent : NodeMap M → Stage → Type 0
  AllCurrent t stage = (slot word : ℕ) → lookup (spots_of stage) slot ≡ Some word
      → (a : PlacedNode M) → t slot ≡ Some a → a.word ≡ word

  -- The event of a call is uncontended: no upgrade is made to fail, no node has the last version, and the call alone
  -- holds what is held.
  pub record IsUndisturbed (t : NodeMap M) (stage : Stage) (env : Env M) (k : Kind) : Type 0 where
    pub whole : k ≡ kind.Upgrade → env.fail ≡ false
    pub versions : (s : ℕ) (a : PlacedNode M) → t s ≡ Some a → version a.word ≢ last_version
    pub alone : (s : ℕ) → NeedsHolder t s → Holding stage s

  -- the call remembers nothing any more, and begins again
  pub record StartsOver (t t' : NodeMap M) (call next : Record M) : Type 0 where
    pub forgotten : spots_of next.stage ≡ []
    pub work : work_of t' next < work_of t call + 40

  pub record NodeStays (t : NodeMap M) (spot : Spot) : Type 0 where
    pub node : PlacedNode M
    pub here : t spot.slot ≡ Some node
    pub word : node.word ≡ spot.word

  -- the last Read reported this slot, and its node's word is the remembered one
  abbrev pub MayFollow : NodeMap M → Stage → Option (Seen M) → ℕ → Type 0
  MayFollow t (Check path) last slot = SawNode last slot × NodeStays t path.here
  MayFollow t (Scan course (scan.Check spot)) last slot = SawNode last slot × NodeStays t spot
  MayFollow t (Seek c (seek.Check path)) last slot = SawNode last slot × NodeStays t path.here
  MayFollow t _ last slot = ⊥

  -- THE COURSE of a call that goes on: which slot it touches, which slots it may touch next and how it learned of them,
  -- and that its work falls or it begins again; an uncontended event doesn't if all remembered words are current
  pub record IsCourse (t t' : NodeMap M) (root : ℕ) (call : Record M) (env : Env M) (next : Record M)
      (report : Report) (out : Outcome M) : Type 0 where
    pub touches : (slot : ℕ) → report.slot ≡ Some slot → report.kind ≢ kind.Make
        → (slot ≡ root) ⊎ IsIn slot (named_at call.stage)
    pub names : (slot : ℕ) → IsIn slot (named_at next.stage)
        → (slot ≡ root) ⊎ (IsIn slot (named_at call.stage)
        ⊎ MayFollow t call.stage call.task.last slot)
    pub reads : (slot : ℕ) → MayFollow t' next.stage next.task.last slot → report.kind ≡ kind.Read
    pub outline : next.task.outline ≡ call.task.outline
    pub keeps : AllCurrent t call.stage → AllCurrent t' next.stage
    pub falls : IsPoint call.task.outline
        → (StartsOver t t' call next × (AllCurrent t call.stage → IsUndisturbed t call.stage env report.kind → ⊥))
        ⊎ (work_of t' next < work_of t call)

  -- what the state shows of these nodes
  pub record ShowsNodes (t : NodeMap M) (root : ℕ) (s : State M) : Type 0 where
    pub nodes : (slot : ℕ) → lookup s.nodes slot ≡ shown (t slot)
    pub root_is : s.root ≡ root

-- If `Granted` holds, a share is always granted. `same` compares two payloads.
module _ {M : Type 0} (Granted : Type 0) (same : M → M → Bool) where
  -- AN EVENT THAT ONLY READS: what it leaves of its call, in any state that shows these nodes
  pub record IsRead (t : NodeMap M) (root pin : ℕ) (call : Record M) (env : Env M) (next : Record M)
      (report : Report) (out : Outcome M) : Type 0 where
    pub facts : Facts Granted same t root pin next
    pub held : held_at next.stage ≡ []
    pub made : made_at next.stage ≡ []
    pub course : IsCourse t t root call env next report out
    pub does : (s : State M) (id : ℕ) → ShowsNodes t root s → DoesAs Granted same s
        (with_call s id (flight pin next)) id (flight pin call) env report out report.kind
    pub carries : (s : State M) → ShowsNodes t root s → (m : Pairs M) → IsContent s m
        → ContentAfter same m m (flight pin call) out

  -- THE NEXT EVENT of a call, after which it goes on, or is no longer in flight
  abbrev pub IsAdvance : NodeMap M → ℕ → ℕ → Record M → Env M → Option (Record M) → Report
      → Outcome M → Type 0
  IsAdvance t root pin call env (Some next) report out = IsRead t root pin call env next report out
  IsAdvance t root pin call env None report out =
      IsAtEnd call.stage × (report ≡ report_of kind.Finish None 0 true) × (out ≡ Done)

  -- A START
  pub record IsBegun (w w' : World M) (id : ℕ) (op : Op M) (report : Report) : Type 0 where
    pub before : IsSoundWorld Granted same w
    pub after : IsSoundWorld Granted same w'
    pub others : (o : ℕ) → o ≢ id → record_of w' o ≡ record_of w o
    pub nodes : (s : ℕ) → table_of w' s ≡ table_of w s
    pub root : w'.root ≡ w.root
    pub record_is : Record M
    pub here : record_of w' id ≡ Some record_is
    pub stage : BeginsAt record_is.task.outline record_is.stage
    pub outline : record_is.task.outline ≡ outline_of op
    pub start : IsStart (state_of w) (state_of w') id op report

  -- A RECLAIM of a slot, on which no call in flight may step any more
  pub record IsFreed (w w' : World M) (slot : ℕ) (report : Report) : Type 0 where
    pub before : IsSoundWorld Granted same w
    pub after : IsSoundWorld Granted same w'
    pub calls : (id : ℕ) → record_of w' id ≡ record_of w id
    pub pins : (id : ℕ) → pin_of w'.pins id ≡ pin_of w.pins id
    pub root : w'.root ≡ w.root
    pub leaves : (id pin : ℕ) → pin_of w.pins id ≡ Some pin
        → Guarantees (table_of w) (table_of w') (λ s. ⊥) pin
    pub reclaim : IsReclaim (state_of w) (state_of w') slot report
    pub carries : (m : Pairs M) → IsContent (state_of w) m → IsContent (state_of w') m

  -- A STEP of the call of a number
  pub record IsTurn (w w' : World M) (id : ℕ) (env : Env M) (report : Report)
      (out : Outcome M) : Type 0 where
    pub before : IsSoundWorld Granted same w
    pub after : IsSoundWorld Granted same w'
    pub call : Record M
    pub pin : ℕ
    pub found : record_of w id ≡ Some call
    pub pinned : pin_of w.pins id ≡ Some pin
    pub others : (o : ℕ) → o ≢ id → record_of w' o ≡ record_of w o
    pub root : w'.root ≡ w.root
    pub leaves : (p : ℕ) → p ≤ w.pins.count
        → Guarantees (table_of w) (table_of w') (Holding call.stage) p
    pub course : (next : Record M) → record_of w' id ≡ Some next
        → IsCourse (table_of w) (table_of w') w.root call env next report out
    pub ends : record_of w' id ≡ None → (out ≡ Done) × (report.slot ≡ None)
    pub step : IsStep Granted same (state_of w) (state_of w') id env report out
    pub carries : (m : Pairs M) → IsContent (state_of w) m
        → IsContentStep same m (state_of w) (state_of w') id out
