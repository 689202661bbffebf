-- A call that runs alone ends within as many events as its work counts.
use Rattle.std.proofs.Common.{◌≡◌, ◌≢◌, ℕ, false, ◌+◌, ◌-◌, ◌*◌, ◌<◌, ◌≤◌, ◌^◌, Bool, true, IsTrue, if◌then◌else◌, List, [], ◌∷◌, length, Option, Some, None, ◌⊎◌, inl, inr, refl, sym, subst, ap, ◌∙◌, arith}
use Rattle.std.proofs.lemmas.Bool.Decides.{eqb_tells}
use Rattle.spec_map.proofs.MapLaws.{lookup-without_same, lookup-without_other}
use Rattle.spec_map.specs.Map.{Pairs, lookup, without}
use Rattle.spec_olc.specs.Alone.{CountsDown, EndsWithin, AllEndAlone, may_remove}
use Rattle.spec_olc.specs.Alone.{IsUncontended as AreAlone}
use Rattle.spec_olc.specs.Calls.{Outline, IsPoint}
use Rattle.spec_olc.specs.Kinds.{IsReclaim}
use Rattle.spec_olc.specs.Runs.{same_number}
use Rattle.spec_olc.specs.State.{State}
use Rattle.spec_olc.specs.State as state
use Rattle.spec_olc.specs.declared.trace.Line.{Line}
use Rattle.spec_olc.specs.declared.trace.Line.TheVariants.{Done as Made, Skipped}
use Rattle.spec_olc.specs.declared.types.Env.{Env}
use Rattle.spec_olc.specs.declared.types.Event.{Event}
use Rattle.spec_olc.specs.declared.types.Event.TheVariants.{Start, Step, Reclaim}
use Rattle.spec_olc.specs.declared.types.Kind.{Kind}
use Rattle.spec_olc.specs.declared.types.Kind.TheVariants as kind
use Rattle.spec_olc.specs.declared.types.Op.{Op}
use Rattle.spec_olc.specs.declared.types.Op.TheVariants.{Range}
use Rattle.spec_olc.specs.declared.types.Outcome.{Outcome}
use Rattle.spec_olc.specs.declared.types.Outcome.TheVariants.{Done}
use Rattle.spec_olc.specs.declared.types.Progress.{Progress}
use Rattle.spec_olc.specs.declared.types.Progress.TheVariants.{Open, Decided, Refused}
use Rattle.spec_olc.specs.declared.types.Report.{Report}
use Rattle.olc_state.specs.declared.cleanup.Cleanup.{Cleanup}
use Rattle.olc_state.specs.declared.cleanup.Seek.{Seek as AnySeek}
use Rattle.olc_state.specs.declared.cleanup.Seek.TheVariants as seek
use Rattle.olc_state.specs.declared.cleanup.Tidy.{Tidy as AnyTidy}
use Rattle.olc_state.specs.declared.cleanup.Tidy.TheVariants as tidy
use Rattle.olc_state.specs.declared.stage.Record.{Record}
use Rattle.olc_state.specs.declared.stage.Task.{Task}
use Rattle.olc_state.specs.declared.stage.Stage.{Stage}
use Rattle.olc_state.specs.declared.stage.Stage.TheVariants.{TakeRoot, Read, Check, TakeBelow, CheckAbove, Answer, Tail, Seek, Tidy}
use Rattle.olc_state.specs.declared.stage.Spot.{Spot}
use Rattle.olc_state.specs.declared.tail.Case.{Case}
use Rattle.olc_state.specs.declared.tail.Case.TheVariants as case
use Rattle.olc_state.specs.declared.tail.Large.{Large}
use Rattle.olc_state.specs.declared.tail.Large.TheVariants.{GrowLeaf, GrowInner, Split, Detach}
use Rattle.olc_state.specs.declared.tail.Small.{Small}
use Rattle.olc_state.specs.declared.tail.Small.TheVariants.{Entry, Leaf}
use Rattle.olc_state.specs.declared.tail.Tail.{Tail as AnyTail}
use Rattle.olc_state.specs.declared.tail.Tail.TheVariants.{Upgrade, Unlock, UpgradeAbove, UpgradeBelow, Obsolete}
use Rattle.olc_state.specs.inner.CleanupFacts.{SeekFacts, TidyFacts}
use Rattle.olc_state.specs.inner.CleanupStages.{seek_work, tidy_work}
use Rattle.olc_state.specs.inner.Facts.{Facts, FactsAt, Holding, IsSoundWorld}
use Rattle.olc_state.specs.inner.Scans.{BeginsAt}
use Rattle.olc_state.specs.inner.Shown.{flight, shown, spots_of, state_of}
use Rattle.olc_state.specs.inner.Tables.{Guarantees, Known}
use Rattle.olc_state.specs.inner.TailFacts.{TailFacts}
use Rattle.olc_state.specs.inner.Tails.{case_work, large_work, small_work, tail_work, unlock_work}
use Rattle.olc_state.specs.inner.Tasks.{CleansUp}
use Rattle.olc_state.specs.inner.Turns.{cleanup_work, depth_in, seek_depth, work, work_of, AllCurrent, IsUndisturbed, IsCourse, IsBegun, IsFreed, IsTurn}
use Rattle.olc_state.specs.inner.World.{World, PlacedNode, NodeMap, table_of, record_of}
use Rattle.olc_state.proofs.Holding.{holds_nothing}
use Rattle.olc_state.proofs.Options.{none_some, some_same}
use Rattle.olc_state.proofs.States.{nodes_rise, shown_node}
use Rattle.olc_replay.specs.inner.Played.{Plays, Move, transitions_of, AreMoves}
use Rattle.olc_replay.proofs.Flying.{in_flight, flies, no_call}
use Rattle.olc_replay.proofs.Playing.{sound_next}

-- the bounds of a call from any event on, and from its Start on
abbrev from_any_event : Outline → ℕ
from_any_event op = if may_remove op then 200 else 80

abbrev from_its_start : Outline → ℕ
from_its_start op = if may_remove op then 120 else 40

-- few events are left to a tail
few_small : (small : Small) → 1 + small_work small ≤ 40
few_small Entry = omega arith
few_small Leaf = omega arith

few_large : (large : Large) → 2 + large_work large ≤ 40
few_large GrowLeaf = omega arith
few_large GrowInner = omega arith
few_large Split = omega arith
few_large Detach = omega arith

some_case : (case : Case) → 0 < case_work case
some_case (case.Present pair only) = omega arith
some_case (case.Small path small) = omega arith
some_case (case.Large pair large) = omega arith

few_case : (case : Case) → case_work case ≤ 40
few_case (case.Present pair only) = omega arith
few_case (case.Small path Entry) = omega arith
few_case (case.Small path Leaf) = omega arith
few_case (case.Large pair GrowLeaf) = omega arith
few_case (case.Large pair GrowInner) = omega arith
few_case (case.Large pair Split) = omega arith
few_case (case.Large pair Detach) = omega arith

some_unlock : (progress : Progress) (left : Option Cleanup) → 0 < unlock_work progress left
some_unlock Open left = omega arith
some_unlock Decided None = omega arith
some_unlock Refused None = omega arith
some_unlock Decided (Some c) = omega arith
some_unlock Refused (Some c) = omega arith

some_tail : (progress : Progress) (tail : AnyTail) → 0 < tail_work progress tail
some_tail progress (Unlock spot left) = some_unlock progress left
some_tail progress tail = omega arith

some_seek : (c : Cleanup) (at : AnySeek) (depth : ℕ) → 0 < seek_work c at depth
some_seek c seek.TakeRoot depth = omega arith
some_seek c (seek.Read path) depth = omega arith
some_seek c (seek.Check path) depth = omega arith
some_seek c (seek.TakeBelow path slot) depth = omega arith
some_seek c (seek.CheckAbove path spot fits) depth = omega arith

some_tidy : (c : Cleanup) (at : AnyTidy) → 0 < tidy_work c at
some_tidy c (tidy.UpgradeAbove pair) = omega arith
some_tidy c (tidy.UpgradeBelow pair) = omega arith
some_tidy c (tidy.TakeAway pair) = omega arith
some_tidy c at = omega arith

some_work : (t : NodeMap ℕ) (progress : Progress) (stage : Stage) → 0 < work t progress stage
some_work t progress (Answer case) = some_case case
some_work t progress (Tail tail) = some_tail progress tail
some_work t progress (Seek c at) = some_seek c at (seek_depth t at)
some_work t progress (Tidy c at) = some_tidy c at
some_work t progress stage = omega arith

some_work_of : (t : NodeMap ℕ) (call : Record ℕ) → 0 < work_of t call
some_work_of t call = let some = some_work t call.task.progress call.stage in omega (arith, some)

-- What a call at this stage has left, with a whole attempt more, is within its bound.
abbrev FewLeft : Progress → Outline → ℕ → Type 0
FewLeft progress outline n = n + cleanup_work progress outline + 40 ≤ from_any_event outline

few_if : (n : ℕ) (b : Bool) → n ≤ 40 → n + (if b then 70 else 0) + 40 ≤ (if b then 200 else 80)
few_if n true few = omega (arith, few)
few_if n false few = omega (arith, few)

few_over : (n : ℕ) (b : Bool) → n ≤ 40 → n + 0 + 40 ≤ (if b then 200 else 80)
few_over n true few = omega (arith, few)
few_over n false few = omega (arith, few)

few_left : (progress : Progress) (outline : Outline) (n : ℕ) → n ≤ 40 → FewLeft progress outline n
few_left Open outline n few = few_if n (may_remove outline) few
few_left Decided outline n few = few_over n (may_remove outline) few
few_left Refused outline n few = few_over n (may_remove outline) few

-- a cleanup, of a call that has its reply
few_cleaning : (progress : Progress) (outline : Outline) (n : ℕ) → progress ≡ Decided → IsTrue (may_remove outline) → n ≤ 160 → FewLeft progress outline n
few_cleaning progress outline n decided removes few =
    rw decided (subst (λ (b : Bool). n + 0 + 40 ≤ (if b then 200 else 80)) (sym removes) (omega (arith, few)))

few_more : (length : ℕ) (again : Bool) → length ≤ 7 → (if again then 4 * length + 5 else 0) ≤ 33
few_more length true short = omega (arith, short)
few_more length false short = omega arith

few_unlock : (progress : Progress) (left : Option Cleanup) (c : Cleanup) → progress ≡ Decided → left ≡ Some c → c.length ≤ 7 → 1 + unlock_work progress left ≤ 160
few_unlock progress left c decided is short =
    rw decided (rw is (let more = few_more c.length c.again short in omega (arith, short, more)))

few_seek : (c : Cleanup) (at : AnySeek) (depth : ℕ) → c.length ≤ 7 → seek_work c at depth ≤ 160
few_seek c seek.TakeRoot depth short = let more = few_more c.length c.again short in omega (arith, short, more)
few_seek c (seek.Read path) depth short = let more = few_more c.length c.again short in omega (arith, short, more)
few_seek c (seek.Check path) depth short = let more = few_more c.length c.again short in omega (arith, short, more)
few_seek c (seek.TakeBelow path slot) depth short = let more = few_more c.length c.again short in omega (arith, short, more)
few_seek c (seek.CheckAbove path spot fits) depth short = let more = few_more c.length c.again short in omega (arith, short, more)

few_tidy : (c : Cleanup) (at : AnyTidy) → c.length ≤ 7 → tidy_work c at ≤ 160
few_tidy c (tidy.UpgradeAbove pair) short = let more = few_more c.length c.again short in omega (arith, more)
few_tidy c (tidy.UpgradeBelow pair) short = let more = few_more c.length c.again short in omega (arith, more)
few_tidy c (tidy.TakeAway pair) short = let more = few_more c.length c.again short in omega (arith, more)
few_tidy c at short = omega arith

-- a call that cleans up, at each stage
seek_cleans : (t : NodeMap ℕ) (root pin : ℕ) (task : Task ℕ) (c : Cleanup) (at : AnySeek) → SeekFacts (Unit {0}) t root pin task c at → CleansUp task c
seek_cleans t root pin task c seek.TakeRoot f = f.0
seek_cleans t root pin task c (seek.Read path) f = f.cleans
seek_cleans t root pin task c (seek.Check path) f = f.0.cleans
seek_cleans t root pin task c (seek.TakeBelow path slot) f = f.0.cleans
seek_cleans t root pin task c (seek.CheckAbove path spot fits) f = f.0.cleans

tidy_cleans : (t : NodeMap ℕ) (pin : ℕ) (task : Task ℕ) (c : Cleanup) (at : AnyTidy) → TidyFacts t pin task c at → CleansUp task c
tidy_cleans t pin task c (tidy.UpgradeAbove pair) f = f.0
tidy_cleans t pin task c (tidy.UpgradeBelow pair) f = f.0
tidy_cleans t pin task c (tidy.TakeAway pair) f = f.0.cleans
tidy_cleans t pin task c (tidy.MakeSmaller pair) f = f.0.cleans
tidy_cleans t pin task c (tidy.PutSmaller pair copy) f = f.0.cleans
tidy_cleans t pin task c (tidy.UnlockBelow pair) f = f.0.cleans

-- an Unlock after which no cleanup follows
few_free : (progress : Progress) → unlock_work progress None ≤ 40
few_free Open = omega arith
few_free Decided = omega arith
few_free Refused = omega arith

few_ended : (progress : Progress) → progress ≢ Open → 1 + unlock_work progress None ≤ 40
few_ended Open over = absurd (over refl)
few_ended Decided over = omega arith
few_ended Refused over = omega arith

module _ (t : NodeMap ℕ) (root pin : ℕ) (task : Task ℕ) where
  few_tail : (tail : AnyTail) → TailFacts (Unit {0}) same_number t root pin task tail → FewLeft task.progress task.outline (tail_work task.progress tail)
  few_tail (Upgrade path small) f = few_left task.progress task.outline _ (few_small small)
  few_tail (Unlock spot None) f = few_left task.progress task.outline _ (few_free task.progress)
  few_tail (Unlock spot (Some c)) f =
      let cleans : CleansUp task c = f.1 in
      few_cleaning task.progress task.outline _ cleans.decided cleans.removes
      (let few = few_unlock task.progress (Some c) c cleans.decided refl cleans.short in omega (arith, few))
  few_tail (Obsolete pair None) f = few_left task.progress task.outline _ (few_ended task.progress f.0)
  few_tail (Obsolete pair (Some c)) f =
      let cleans : CleansUp task c = f.0 in
      few_cleaning task.progress task.outline _ cleans.decided cleans.removes (few_unlock task.progress (Some c) c cleans.decided refl cleans.short)
  few_tail (UpgradeAbove pair large) f = few_left task.progress task.outline _ (few_large large)
  few_tail (UpgradeBelow pair large) f = few_left task.progress task.outline _ (let few = few_large large in omega (arith, few))
  few_tail tail f = few_left task.progress task.outline _ (omega arith)

  most_work : (stage : Stage) → FactsAt (Unit {0}) same_number t root pin task stage → FewLeft task.progress task.outline (work t task.progress stage)
  most_work (Answer case) f = few_left task.progress task.outline _ (few_case case)
  most_work (Tail tail) f = few_tail tail f
  most_work (Seek c at) f =
      let cleans : CleansUp task c = seek_cleans t root pin task c at f in
      few_cleaning task.progress task.outline _ cleans.decided cleans.removes (few_seek c at (seek_depth t at) cleans.short)
  most_work (Tidy c at) f =
      let cleans : CleansUp task c = tidy_cleans t pin task c at f in
      few_cleaning task.progress task.outline _ cleans.decided cleans.removes (few_tidy c at cleans.short)
  most_work stage f = few_left task.progress task.outline _ (omega arith)

-- where all nodes are the same
module _ (t t' : NodeMap ℕ) (same : (s : ℕ) → t' s ≡ t s) where
  depth_same : (at : AnySeek) → seek_depth t' at ≡ seek_depth t at
  depth_same (seek.Read path) = ap depth_in (same path.here.slot)
  depth_same (seek.Check path) = ap depth_in (same path.here.slot)
  depth_same (seek.TakeBelow path slot) = ap depth_in (same path.here.slot)
  depth_same (seek.CheckAbove path spot fits) = ap depth_in (same path.here.slot)
  depth_same at = refl

  work_same : (progress : Progress) (stage : Stage) → work t' progress stage ≡ work t progress stage
  work_same progress (Read path) = ap (λ a. 4 * (7 - depth_in a) + 10) (same path.here.slot)
  work_same progress (Check path) = ap (λ a. 4 * (7 - depth_in a) + 9) (same path.here.slot)
  work_same progress (TakeBelow path slot) = ap (λ a. 4 * (7 - depth_in a) + 8) (same path.here.slot)
  work_same progress (CheckAbove path spot fits) = ap (λ a. 4 * (7 - depth_in a) + 7) (same path.here.slot)
  work_same progress (Seek c at) = ap (seek_work c at) (depth_same at)
  work_same progress stage = refl

  current_same : (stage : Stage) → AllCurrent t stage → AllCurrent t' stage
  current_same stage c = λ slot word known a here. c slot word known a (sym (same slot) ∙ here)

-- An event of another call that leaves unchanged what this call knows of its nodes leaves its work unchanged.
module _ (t t' : NodeMap ℕ) (root pin : ℕ) (Mine : ℕ → Type 0) (leaves : Guarantees t t' Mine pin) (task : Task ℕ) where
  depth_kept : (spot : Spot) → Known t pin spot → depth_in (t' spot.slot) ≡ depth_in (t spot.slot)
  depth_kept spot kn =
      let m = leaves spot.slot kn.node kn.here kn.safe in
      ap depth_in m.here ∙ (ap length m.kept.prefix ∙ sym (ap depth_in kn.here))

  seek_kept : (c : Cleanup) (at : AnySeek) → SeekFacts (Unit {0}) t root pin task c at → seek_depth t' at ≡ seek_depth t at
  seek_kept c (seek.Read path) f = depth_kept path.here f.on.here
  seek_kept c (seek.Check path) f = depth_kept path.here f.0.on.here
  seek_kept c (seek.TakeBelow path slot) f = depth_kept path.here f.0.on.here
  seek_kept c (seek.CheckAbove path spot fits) f = depth_kept path.here f.0.on.here
  seek_kept c at f = refl

  work_kept : (progress : Progress) (stage : Stage) → FactsAt (Unit {0}) same_number t root pin task stage → work t' progress stage ≡ work t progress stage
  work_kept progress (Read path) f = ap (λ a. 4 * (7 - a) + 10) (depth_kept path.here f.1.here)
  work_kept progress (Check path) f = ap (λ a. 4 * (7 - a) + 9) (depth_kept path.here f.1.here)
  work_kept progress (TakeBelow path slot) f = ap (λ a. 4 * (7 - a) + 8) (depth_kept path.here f.1.here)
  work_kept progress (CheckAbove path spot fits) f = ap (λ a. 4 * (7 - a) + 7) (depth_kept path.here f.1.here)
  work_kept progress (Seek c at) f = ap (seek_work c at) (seek_kept c at f)
  work_kept progress stage f = refl

-- The slot has a node with this word.
pub record HadWord (t : NodeMap ℕ) (s word : ℕ) : Type 0 where
  pub node : PlacedNode ℕ
  pub here : t s ≡ Some node
  pub is : node.word ≡ word

had_word : (t : NodeMap ℕ) (s : ℕ) (x : Option (PlacedNode ℕ)) (n : state.VersionedNode ℕ) → t s ≡ x → shown x ≡ Some n → HadWord t s n.word
had_word t s None n here e = absurd (none_some n e)
had_word t s (Some a) n here e = record { node = a; here = here; is = ap (λ (z : state.VersionedNode ℕ). z.word) (some_same _ n e) }

words_left : (w after : World ℕ) (slot : ℕ) (report : Report) → IsReclaim (state_of w) (state_of after) slot report → (s : ℕ) (a : PlacedNode ℕ) → table_of after s ≡ Some a → HadWord (table_of w) s a.word
words_left w after slot report r s a here =
    let there : lookup (state_of after).nodes s ≡ shown (Some a) = shown_node after s ∙ ap shown here in
    let rest : lookup (without (state_of w).nodes slot) s ≡ shown (Some a) = sym (ap (λ (z : State ℕ). lookup z.nodes s) r.after) ∙ there in
    elim (eqb_tells s slot) [
      | inl same ↦
          let gone : lookup (without (state_of w).nodes slot) slot ≡ None = lookup-without_same 0 (length w.slots) (state_of w).nodes slot (nodes_rise w) in
          absurd (none_some _ (sym (subst (λ (z : ℕ). lookup (without (state_of w).nodes slot) z ≡ None) (sym same.1) gone) ∙ rest))
      | inr off ↦
          had_word (table_of w) s (table_of w s) _ refl (sym (shown_node w s) ∙ (sym (lookup-without_other (state_of w).nodes slot s off.1) ∙ rest))
    ]

current_left : (w after : World ℕ) (slot : ℕ) (report : Report) → IsReclaim (state_of w) (state_of after) slot report → (stage : Stage) → AllCurrent (table_of w) stage → AllCurrent (table_of after) stage
current_left w after slot report r stage c = λ s word known a here.
    let had = words_left w after slot report r s a here in sym had.is ∙ c s word known had.node had.here

-- If no other call holds a node, each node that needs a holder is held by this call.
undisturbed_inside : (w : World ℕ) (id : ℕ) (call : Record ℕ) (env : Env ℕ) (k : Kind) → IsSoundWorld (Unit {0}) same_number w → record_of w id ≡ Some call → (k ≡ kind.Upgrade → env.fail ≡ false) → AreAlone (state_of w) id
    → IsUndisturbed (table_of w) call.stage env k
undisturbed_inside w id call env k sound found whole alone = record {
  whole = whole;
  versions = λ s a here. alone.versions s _ (shown_node w s ∙ ap shown here);
  alone = λ s need.
      let h = sound.held s need in
      elim (eqb_tells h.0 id) [
        | inl same ↦
            let is : h.1 ≡ call = some_same h.1 call (sym h.2 ∙ subst (λ (z : ℕ). record_of w z ≡ Some call) (sym same.1) found) in
            subst (λ (r : Record ℕ). Holding r.stage s) is h.3
        | inr off ↦
            let f = in_flight w h.0 h.1 sound (sound.numbered h.0 h.1 h.2) h.2 in
            absurd (holds_nothing h.1.stage (alone.others h.0 (flight f.0 h.1) f.2 off.1) s h.3)
      ];
}

-- At most n events are left: of a call whose remembered words are current, its work; of another, a whole attempt more.
abbrev pub IsLeft : NodeMap ℕ → Record ℕ → ℕ → Type 0
IsLeft t call n = (AllCurrent t call.stage × (work_of t call ≤ n)) ⊎ (work_of t call + 40 ≤ n)

left_by : (t t' : NodeMap ℕ) (call : Record ℕ) (n : ℕ) → work_of t' call ≡ work_of t call → (AllCurrent t call.stage → AllCurrent t' call.stage) → IsLeft t call n → IsLeft t' call n
left_by t t' call n e current l =
    elim l [
      | inl now ↦ inl (current now.0, omega (arith, e, now.1))
      | inr late ↦ inr (omega (arith, e, late))
    ]

left_same : (t t' : NodeMap ℕ) → ((s : ℕ) → t' s ≡ t s) → (call : Record ℕ) (n : ℕ) → IsLeft t call n → IsLeft t' call n
left_same t t' same call n = left_by t t' call n (ap (λ a. a + cleanup_work call.task.progress call.task.outline) (work_same t t' same call.task.progress call.stage)) (current_same t t' same call.stage)

-- where nothing is remembered
left_anew : (t : NodeMap ℕ) (call : Record ℕ) (n : ℕ) → spots_of call.stage ≡ [] → work_of t call ≤ n → IsLeft t call n
left_anew t call n forgotten h =
    inl ((λ slot word known a here. absurd (none_some word (subst (λ (l : List (ℕ × ℕ)). lookup l slot ≡ Some word) forgotten known))), h)

begins_at_root : (outline : Outline) (at : Stage) → IsPoint outline → BeginsAt outline at → at ≡ TakeRoot
begins_at_root (Range a b n) at point first = absurd point
begins_at_root outline at point first = first

root_if : (b : Bool) → 39 + (if b then 70 else 0) ≤ (if b then 120 else 40) - 1
root_if true = omega arith
root_if false = omega arith

root_over : (b : Bool) → 39 + 0 ≤ (if b then 120 else 40) - 1
root_over true = omega arith
root_over false = omega arith

few_at_root : (progress : Progress) (outline : Outline) → 39 + cleanup_work progress outline ≤ from_its_start outline - 1
few_at_root Open outline = root_if (may_remove outline)
few_at_root Decided outline = root_over (may_remove outline)
few_at_root Refused outline = root_over (may_remove outline)

left_at_root : (t : NodeMap ℕ) (call : Record ℕ) → call.stage ≡ TakeRoot → IsLeft t call (from_its_start call.task.outline - 1)
left_at_root t call e =
    left_anew t call (from_its_start call.task.outline - 1) (ap spots_of e)
    (subst (λ (s : Stage). work t call.task.progress s + cleanup_work call.task.progress call.task.outline ≤ from_its_start call.task.outline - 1) (sym e) (few_at_root call.task.progress call.task.outline))

-- the call of one number
module _ (id : ℕ) (small : id < 2 ^ 64) where
  -- it has at most n events left
  pub record Has (w : World ℕ) (n : ℕ) : Type 0 where
    pub call : Record ℕ
    pub found : record_of w id ≡ Some call
    pub point : IsPoint call.task.outline
    pub left : IsLeft (table_of w) call n

  module _ (w after : World ℕ) (env : Env ℕ) (report : Report) (out : Outcome ℕ) (n : ℕ) (sound : IsSoundWorld (Unit {0}) same_number w) (has : Has w n)
      (turn : IsTurn (Unit {0}) same_number w after id env report out) where
    less : (next : Record ℕ) → IsPoint turn.call.task.outline → (report.kind ≡ kind.Upgrade → env.fail ≡ false) → AreAlone (state_of w) id → IsLeft (table_of w) turn.call n → IsCourse (table_of w) (table_of after) w.root turn.call env next report out
        → (1 < n) × IsLeft (table_of after) next (n - 1)
    less next point whole alone l course =
        let some : 0 < work_of (table_of after) next = some_work_of (table_of after) next in
        let was : 0 < work_of (table_of w) turn.call = some_work_of (table_of w) turn.call in
        elim (course.falls point) [
          | inl back ↦
              elim l [
                | inl now ↦ absurd (back.1 now.0 (undisturbed_inside w id turn.call env report.kind sound turn.found whole alone))
                | inr late ↦ (omega (arith, late, was), left_anew (table_of after) next (n - 1) back.0.forgotten (let most = back.0.work in omega (arith, late, was, most)))
              ]
          | inr falls ↦
              elim l [
                | inl now ↦ (omega (arith, falls, some, now.1), inl (course.keeps now.0, omega (arith, falls, some, now.1)))
                | inr late ↦ (omega (arith, falls, some, late), inr (omega (arith, falls, some, late)))
              ]
        ]

    turn_at : (next : Option (Record ℕ)) → (report.kind ≡ kind.Upgrade → env.fail ≡ false) → AreAlone (state_of w) id → record_of after id ≡ next → (out ≡ Done) ⊎ ((1 < n) × Has after (n - 1))
    turn_at None whole alone e = inl (turn.ends e).0
    turn_at (Some next) whole alone e =
        let same : has.call ≡ turn.call = some_same has.call turn.call (sym has.found ∙ turn.found) in
        let point : IsPoint turn.call.task.outline = subst (λ (r : Record ℕ). IsPoint r.task.outline) same has.point in
        let course : IsCourse (table_of w) (table_of after) w.root turn.call env next report out = turn.course next e in
        let l = less next point whole alone (subst (λ (r : Record ℕ). IsLeft (table_of w) r n) same has.left) course in
        inr (l.0, record { call = next; found = e; point = subst (λ (o : Outline). IsPoint o) (sym course.outline) point; left = l.1 })

    turned : (report.kind ≡ kind.Upgrade → env.fail ≡ false) → AreAlone (state_of w) id → (out ≡ Done) ⊎ ((1 < n) × Has after (n - 1))
    turned whole alone = turn_at (record_of after id) whole alone refl

  -- it has as many events left as before another call's Start
  begun_has : (w after : World ℕ) (i : ℕ) (op : Op ℕ) (report : Report) (n : ℕ) → IsSoundWorld (Unit {0}) same_number w → Has w n → IsBegun (Unit {0}) same_number w after i op report → Has after n
  begun_has w after i op report n sound has begun =
      elim (eqb_tells id i) [
        | inl same ↦
            let f = in_flight w id has.call sound small has.found in
            absurd (none_some (flight f.0 has.call) (sym (subst (λ (z : ℕ). lookup (state_of w).calls z ≡ None) (sym same.1) begun.start.free) ∙ f.2))
        | inr off ↦ record { call = has.call; found = begun.others id off.1 ∙ has.found; point = has.point; left = left_same (table_of w) (table_of after) begun.nodes has.call n has.left }
      ]

  -- it has as many events left as before a Reclaim: no node that it knows is reclaimed
  freed_has : (w after : World ℕ) (slot : ℕ) (report : Report) (n : ℕ) → IsSoundWorld (Unit {0}) same_number w → Has w n → IsFreed (Unit {0}) same_number w after slot report → Has after n
  freed_has w after slot report n sound has freed =
      let p = in_flight w id has.call sound small has.found in
      let facts : Facts (Unit {0}) same_number (table_of w) w.root p.0 has.call = sound.facts id p.0 has.call has.found p.1 in
      let same : work_of (table_of after) has.call ≡ work_of (table_of w) has.call =
      ap (λ a. a + cleanup_work has.call.task.progress has.call.task.outline)
      (work_kept (table_of w) (table_of after) w.root p.0 _ (freed.leaves id p.0 p.1) has.call.task has.call.task.progress has.call.stage facts.at) in
      record {
        call = has.call;
        found = freed.calls id ∙ has.found;
        point = has.point;
        left = left_by (table_of w) (table_of after) has.call n same (current_left w after slot report freed.reclaim has.call.stage) has.left;
      }

  passes : (w after : World ℕ) (event : Event ℕ) (line : Line) (n : ℕ) (rest : ℕ → Type 0) → IsSoundWorld (Unit {0}) same_number w → Has w n → Plays w event line after
      → ((k : ℕ) → Has after k → rest k) → CountsDown id (state_of w) event line n rest
  passes w after (Start i op) Skipped n rest sound has p onward = onward n (subst (λ (z : World ℕ). Has z n) (sym p.1) has)
  passes w after (Step i env) Skipped n rest sound has p onward = onward n (subst (λ (z : World ℕ). Has z n) (sym p.1) has)
  passes w after (Reclaim slot) Skipped n rest sound has p onward = onward n (subst (λ (z : World ℕ). Has z n) (sym p.1) has)
  passes w after (Start i op) (Made report out seen) n rest sound has p onward = onward n (begun_has w after i op report n sound has p.0)
  passes w after (Reclaim slot) (Made report out seen) n rest sound has p onward = onward n (freed_has w after slot report n sound has p.0)
  passes w after (Step i env) (Made report out seen) n rest sound has p onward = λ mine whole granted undisturbed.
      let turn : IsTurn (Unit {0}) same_number w after id env report out = subst (λ (z : ℕ). IsTurn (Unit {0}) same_number w after z env report out) mine p.0 in
      elim (turned w after env report out n sound has turn whole undisturbed) [
        | inl done ↦ inl done
        | inr more ↦ inr (more.0, onward (n - 1) more.1)
      ]

  ends_within : (w : World ℕ) (m : Pairs ℕ) (xs : List Move) (last : World ℕ) (k : Pairs ℕ) (n : ℕ) → IsSoundWorld (Unit {0}) same_number w → Has w n → AreMoves w m xs last k
      → EndsWithin id (transitions_of xs) (state_of w) n
  ends_within w m [] last k n sound has are = tt
  ends_within w m (x ∷ xs) last k n sound has are =
      passes w x.inside x.event x.line n _ sound has are.0.plays
      (λ left more. ends_within x.inside x.content xs last k left (sound_next w x.inside x.event x.line sound are.0.plays) more are.1)

  -- a call that has just begun
  begins : (w after : World ℕ) (event : Event ℕ) (line : Line) (r : Record ℕ) → IsPoint r.task.outline → record_of w id ≡ None → record_of after id ≡ Some r → Plays w event line after
      → Has after (from_its_start r.task.outline - 1)
  begins w after event Skipped r point none found p = absurd (none_some r (sym none ∙ subst (λ (z : World ℕ). record_of z id ≡ Some r) p.1 found))
  begins w after (Start i op) (Made report out seen) r point none found p =
      elim (eqb_tells id i) [
        | inl same ↦
            let here : record_of after id ≡ Some p.0.record_is = subst (λ (z : ℕ). record_of after z ≡ Some p.0.record_is) (sym same.1) p.0.here in
            let is : r ≡ p.0.record_is = some_same r p.0.record_is (sym found ∙ here) in
            let as_point : IsPoint p.0.record_is.task.outline = subst (λ (z : Record ℕ). IsPoint z.task.outline) is point in
            record {
              call = p.0.record_is;
              found = here;
              point = as_point;
              left = subst (λ (z : Record ℕ). IsLeft (table_of after) p.0.record_is (from_its_start z.task.outline - 1)) (sym is)
                  (left_at_root (table_of after) p.0.record_is (begins_at_root p.0.record_is.task.outline p.0.record_is.stage as_point p.0.stage));
            }
        | inr off ↦ absurd (none_some r (sym none ∙ (sym (p.0.others id off.1) ∙ found)))
      ]
  begins w after (Step i env) (Made report out seen) r point none found p =
      elim (eqb_tells id i) [
        | inl same ↦ absurd (none_some p.0.call (sym none ∙ subst (λ (z : ℕ). record_of w z ≡ Some p.0.call) (sym same.1) p.0.found))
        | inr off ↦ absurd (none_some r (sym none ∙ (sym (p.0.others id off.1) ∙ found)))
      ]
  begins w after (Reclaim slot) (Made report out seen) r point none found p = absurd (none_some r (sym none ∙ (sym (p.0.calls id) ∙ found)))

-- from any event on, whatever it remembers
has_some : (w : World ℕ) (id : ℕ) (small : id < 2 ^ 64) (r : Record ℕ) → IsSoundWorld (Unit {0}) same_number w → IsPoint r.task.outline → record_of w id ≡ Some r → Has id small w (from_any_event r.task.outline)
has_some w id small r sound point found =
    let p = in_flight w id r sound small found in
    let facts : Facts (Unit {0}) same_number (table_of w) w.root p.0 r = sound.facts id p.0 r found p.1 in
    record { call = r; found = found; point = point; left = inr (most_work (table_of w) w.root p.0 r.task r.stage facts.at) }

-- Each point call is obstruction-free: if it runs alone, it ends within 40 events from its Start on, and within 80 from
-- any event on; within 120 and 200 if it may remove its key.
pub all_end : (w : World ℕ) (m : Pairs ℕ) (xs : List Move) (last : World ℕ) (n : Pairs ℕ) → IsSoundWorld (Unit {0}) same_number w → AreMoves w m xs last n
    → AllEndAlone (state_of w) (transitions_of xs)
all_end w m [] last n sound are = tt
all_end w m (x ∷ xs) last n sound are =
    let next : IsSoundWorld (Unit {0}) same_number x.inside = sound_next w x.inside x.event x.line sound are.0.plays in (
      (λ id call point. (
        (λ here.
            let f = flies w id call here in
            let as_point : IsPoint f.call.task.outline = subst (λ (o : Outline). IsPoint o) (sym f.outline) point in
            ends_within id f.small w m (x ∷ xs) last n (from_any_event call.outline) sound
            (subst (λ (o : Outline). Has id f.small w (from_any_event o)) f.outline (has_some w id f.small f.call sound as_point f.found)) are),
        (λ none here.
            let f = flies x.inside id call here in
            let as_point : IsPoint f.call.task.outline = subst (λ (o : Outline). IsPoint o) (sym f.outline) point in
            let before : record_of w id ≡ None = no_call w id sound f.small none in
            ends_within id f.small x.inside x.content xs last n (from_its_start call.outline - 1) next
            (subst (λ (o : Outline). Has id f.small x.inside (from_its_start o - 1)) f.outline (begins id f.small w x.inside x.event x.line f.call as_point before f.found are.0.plays)) are.1),
      )),
      all_end x.inside x.content xs last n next are.1,
    )
