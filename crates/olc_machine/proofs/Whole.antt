-- In a sound inside each call without a reply has its payloads.
use Rattle.std.proofs.Common.{◌≡◌, ℕ, ◌^◌, Bool, Option, Some, None, inl, inr, refl, sym, subst, ap, ◌∙◌}
use Rattle.std.proofs.lemmas.Bool.{cases_lt}
use Rattle.spec_map.specs.Map.{lookup}
use Rattle.spec_map.proofs.JoinLaws.{lookup-above}
use Rattle.spec_olc.specs.State.{CallState}
use Rattle.spec_olc.specs.declared.types.Op.TheVariants.{Range}
use Rattle.spec_olc.specs.declared.types.Progress.TheVariants.{Open}
use Rattle.olc_words.specs.Epoch.{pin_of}
use Rattle.olc_state.specs.declared.scan.RangeProgress.{RangeProgress}
use Rattle.olc_state.specs.declared.scan.Scan.{Scan}
use Rattle.olc_state.specs.declared.scan.Scan.TheVariants as scan
use Rattle.olc_state.specs.declared.stage.Record.{Record}
use Rattle.olc_state.specs.declared.stage.Stage.{Stage}
use Rattle.olc_state.specs.declared.stage.Stage.TheVariants as stage
use Rattle.olc_state.specs.declared.stage.Task.{Task}
use Rattle.olc_state.specs.declared.tail.Case.{Case}
use Rattle.olc_state.specs.declared.tail.Case.TheVariants as case
use Rattle.olc_state.specs.declared.tail.Tail.{Tail}
use Rattle.olc_state.specs.declared.tail.Tail.TheVariants as tail
use Rattle.olc_state.specs.inner.Facts.{FactsAt, IsSoundWorld}
use Rattle.olc_state.specs.inner.Scans.{HasOp, IsRanging, ScanFacts}
use Rattle.olc_state.specs.inner.Shown.{flight, flight_in, state_of}
use Rattle.olc_state.specs.inner.TailFacts.{CaseFacts, TailFacts}
use Rattle.olc_state.specs.declared.cleanup.Seek.TheVariants as seek
use Rattle.olc_state.specs.declared.cleanup.Tidy.TheVariants as tidy
use Rattle.olc_state.specs.inner.Tasks.{CleansUp, IsOpen}
use Rattle.olc_state.specs.inner.World.{World, NodeMap, table_of, record_of}
use Rattle.olc_state.proofs.Options.{none_some, some_same}
use Rattle.olc_state.proofs.States.{shown_flight, flights_map}
use Rattle.olc_state.proofs.Unlike.{decided_open, refused_open}
use Rattle.olc_machine.specs.Whole.{HasItsOp, AllHaveTheirOps}
use Rattle.olc_state.specs.declared.cleanup.Cleanup.{Cleanup}

module _ {M : Type 0} (Granted : Type 0) (same : M → M → Bool) where
  module _ (t : NodeMap M) (root pin : ℕ) (task : Task M) (going : task.progress ≡ Open) where
    has : IsOpen task → HasOp task
    has o = (o.op, o.op_is, o.outline)

    -- a call that cleans up has its reply
    cleaning : {c : Cleanup} → CleansUp task c → ⊥
    cleaning up = decided_open (sym up.decided ∙ going)

    at_tail : (x : Tail) → TailFacts Granted same t root pin task x → IsOpen task
    at_tail (tail.Upgrade path small) f = f.0
    at_tail (tail.Write spot) f = f.work.writes.opened
    at_tail (tail.MakeLeaf spot) f = f.work.writes.opened
    at_tail (tail.Link spot leaf) f = f.0.work.writes.opened
    at_tail (tail.Unlock spot None) f = elim f.1 [ inl o ↦ o | inr over ↦ absurd (over going) ]
    at_tail (tail.Unlock spot (Some c)) f = absurd (cleaning f.1)
    at_tail (tail.UpgradeAbove pair large) f = f.0.opened
    at_tail (tail.UpgradeBelow pair large) f = f.0.opened
    at_tail (tail.MakeLeafBelow pair large) f = f.0.work.writes.opened
    at_tail (tail.Grow pair leaf) f = f.0.work.writes.opened
    at_tail (tail.MakeMiddle pair leaf) f = f.0.work.writes.opened
    at_tail (tail.Replace pair copy leaf) f = f.0.work.writes.opened
    at_tail (tail.Insert pair middle leaf) f = f.0.work.writes.opened
    at_tail (tail.Detach pair) f = f.work.writes.opened
    at_tail (tail.Obsolete pair None) f = absurd (f.0 going)
    at_tail (tail.Obsolete pair (Some c)) f = absurd (cleaning f.0)
    at_tail (tail.UnlockBelow pair) f = absurd (f.0 going)

    at_case : (x : Case) → CaseFacts Granted same t root pin task x → IsOpen task
    at_case (case.Present pair only) f = f.0.opened
    at_case (case.Small path small) f = f.0.waits.opened
    at_case (case.Large pair large) f = f.0.waits.opened

    ranges : (course : RangeProgress) → IsRanging task course → HasOp task
    ranges course r = (Range r.start r.end r.limit, r.op, sym r.outline)

    at_scan : (course : RangeProgress) (x : Scan) → ScanFacts t root pin task course x → HasOp task
    at_scan course scan.TakeRoot f = ranges course f.0
    at_scan course (scan.Read spot) f = ranges course f.ranging
    at_scan course (scan.Check spot) f = ranges course f.0.ranging
    at_scan course (scan.TakeBelow spot slot) f = ranges course f.0.ranging
    at_scan course (scan.CheckAbove spot below from) f = ranges course f.0.ranging
    at_scan course scan.Finish f = elim f [
      | inl refused ↦ absurd (refused_open (sym refused ∙ going))
      | inr all ↦ all.2
    ]

    opened_at : (x : Stage) → FactsAt Granted same t root pin task x → HasOp task
    opened_at stage.TakeRoot f = has f.0.opened
    opened_at (stage.Read path) f = has f.0.opened
    opened_at (stage.Check path) f = has f.0.opened
    opened_at (stage.TakeBelow path slot) f = has f.0.opened
    opened_at (stage.CheckAbove path spot fits) f = has f.0.opened
    opened_at (stage.Answer x) f = has (at_case x f)
    opened_at (stage.Confirm spot) f = has f.0
    opened_at (stage.Tail x) f = has (at_tail x f)
    opened_at (stage.Scan course x) f = at_scan course x f
    opened_at (stage.Seek c seek.TakeRoot) f = absurd (cleaning f.0)
    opened_at (stage.Seek c (seek.Read path)) f = absurd (cleaning f.cleans)
    opened_at (stage.Seek c (seek.Check path)) f = absurd (cleaning f.0.cleans)
    opened_at (stage.Seek c (seek.TakeBelow path slot)) f = absurd (cleaning f.0.cleans)
    opened_at (stage.Seek c (seek.CheckAbove path spot fits)) f = absurd (cleaning f.0.cleans)
    opened_at (stage.Tidy c (tidy.UpgradeAbove pair)) f = absurd (cleaning f.0)
    opened_at (stage.Tidy c (tidy.UpgradeBelow pair)) f = absurd (cleaning f.0)
    opened_at (stage.Tidy c (tidy.TakeAway pair)) f = absurd (cleaning f.0.cleans)
    opened_at (stage.Tidy c (tidy.MakeSmaller pair)) f = absurd (cleaning f.0.cleans)
    opened_at (stage.Tidy c (tidy.PutSmaller pair copy)) f = absurd (cleaning f.0.cleans)
    opened_at (stage.Tidy c (tidy.UnlockBelow pair)) f = absurd (cleaning f.0.cleans)
    opened_at stage.Finish f = absurd (f going)

  module _ (w : World M) (sound : IsSoundWorld Granted same w) (id : ℕ) (call : CallState M) (going : call.progress ≡ Open) where
    by_record : (r : Option (Record M)) (pin : Option ℕ) → record_of w id ≡ r → pin_of w.pins id ≡ pin → flight_in r pin ≡ Some call → HasItsOp call
    by_record None pin found pinned e = absurd (none_some call e)
    by_record (Some r) None found pinned e = absurd (none_some call e)
    by_record (Some r) (Some pin) found pinned e =
        let is : flight pin r ≡ call = some_same (flight pin r) call e in
        let o = opened_at (table_of w) w.root pin r.task (ap (λ (f : CallState M). f.progress) is ∙ going) r.stage (sound.facts id pin r found pinned).at in
        subst HasItsOp is (record { op = o.0; op_is = o.1; outline = o.2 })

    whole_at : lookup (state_of w).calls id ≡ Some call → HasItsOp call
    whole_at e =
        elim (cases_lt id (2 ^ 64)) [
          | inl small ↦ by_record (record_of w id) (pin_of w.pins id) refl refl (sym (shown_flight w id small) ∙ e)
          | inr wide ↦ absurd (none_some call (sym (lookup-above 0 (2 ^ 64) (state_of w).calls id (flights_map w) wide) ∙ e))
        ]

  pub whole : (w : World M) → IsSoundWorld Granted same w → AllHaveTheirOps (state_of w)
  whole w sound id call e going = whole_at w sound id call going e
