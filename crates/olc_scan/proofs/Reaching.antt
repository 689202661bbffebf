-- An event of a range is an event that only reads.
use Rattle.std.proofs.Common.{◌≡◌, ◌≢◌, ℕ, ◌<◌, ◌^◌, Bool, Option, inl, inr, refl, sym, subst}
use Rattle.spec_olc.specs.Calls.{IsPoint, Outline, key_of}
use Rattle.spec_olc.specs.declared.types.Env.{Env}
use Rattle.spec_olc.specs.declared.types.Outcome.{Outcome}
use Rattle.spec_olc.specs.declared.types.Report.{Report}
use Rattle.spec_olc.specs.declared.types.Seen.{Seen}
use Rattle.olc_state.proofs.Records.{at}
use Rattle.olc_state.specs.declared.scan.RangeProgress.{RangeProgress}
use Rattle.olc_state.specs.declared.scan.Scan.{Scan}
use Rattle.olc_state.specs.declared.scan.Scan.TheVariants.{TakeRoot, Read, Check, TakeBelow, CheckAbove, Finish}
use Rattle.olc_state.specs.declared.stage.Stage.TheVariants as stage
use Rattle.olc_state.specs.declared.stage.Task.{Task}
use Rattle.olc_state.specs.inner.Facts.{Facts}
use Rattle.olc_state.specs.inner.Turns.{IsRead}
use Rattle.olc_state.specs.inner.Turns as turns
use Rattle.olc_state.specs.inner.World.{NodeMap}
use Rattle.olc_scan.specs.inner.Ranges.{IsRanging, IsScanned, MayFollowScan, ScanFacts}

module _ {M : Type 0} (t : NodeMap M) (course : RangeProgress) (last : Option (Seen M)) (slot : ℕ) where
  follows : (scan : Scan) → MayFollowScan t scan last slot → turns.MayFollow t (stage.Scan course scan) last slot
  follows (Check spot) h = h
  follows scan h = absurd h

  followed : (scan : Scan) → turns.MayFollow t (stage.Scan course scan) last slot → MayFollowScan t scan last slot
  followed (Check spot) h = h
  followed scan h = absurd h

module _ {M : Type 0} (Granted : Type 0) (same : M → M → Bool) (t : NodeMap M) (root pin : ℕ) (task task' : Task M) (course course' : RangeProgress) (scan scan' : Scan) (env : Env M) (report : Report) (out : Outcome M) where
  no_point : IsRanging task course → IsPoint task.outline → ⊥
  no_point r point = subst (λ (o : Outline). IsPoint o) r.outline point

  pub reads : key_of task.outline < 2 ^ 64 → IsRanging task course → IsScanned Granted same t root pin task course scan env task' course' scan' report out
      → IsRead Granted same t root pin (at (stage.Scan course scan) task) env (at (stage.Scan course' scan') task') report out
  reads small ranging s = record {
    facts = record { small = subst (λ (o : Outline). key_of o < 2 ^ 64) (sym s.outline) small; at = s.facts };
    held = refl;
    made = refl;
    course = record {
      touches = λ slot e make. s.touches slot e;
      names = λ slot h.
          elim (s.names slot h) [
            | inl top ↦ inl top
            | inr (inl old) ↦ inr (inl old)
            | inr (inr new) ↦ inr (inr (follows t course task.last slot scan new))
          ];
      reads = λ slot h. s.reads slot (followed t course' task'.last slot scan' h);
      outline = s.outline;
      keeps = λ current slot word h b there.
          elim (s.keeps slot word h) [
            | inl old ↦ current slot word old b there
            | inr now ↦ now b there
          ];
      falls = λ point. absurd (no_point ranging point);
    };
    does = s.does;
    carries = λ st shows m content. s.leaves m;
  }

-- a range that hasn't ended goes on
module _ {M : Type 0} (t : NodeMap M) (root pin : ℕ) (task : Task M) (course : RangeProgress) where
  pub ranging_in : (scan : Scan) → scan ≢ Finish → ScanFacts t root pin task course scan → IsRanging task course
  ranging_in TakeRoot going f = f.0
  ranging_in (Read spot) going f = f.ranging
  ranging_in (Check spot) going f = f.0.ranging
  ranging_in (TakeBelow spot slot) going f = f.0.ranging
  ranging_in (CheckAbove spot below from) going f = f.0.ranging
  ranging_in Finish going f = absurd (going refl)

module _ {M : Type 0} (Granted : Type 0) (same : M → M → Bool) (t : NodeMap M) (root pin : ℕ) (task : Task M) (course : RangeProgress) (scan now : Scan) (is : scan ≡ now) (facts : Facts Granted same t root pin (at (stage.Scan course scan) task)) where
  -- what it knows at this stage
  pub known_now : ScanFacts t root pin task course now
  known_now = subst (λ (s : Scan). ScanFacts t root pin task course s) is facts.at

  -- and its event
  pub scanned_now : scan ≢ Finish → (task' : Task M) (course' : RangeProgress) (scan' : Scan) (env : Env M) (report : Report) (out : Outcome M) → IsScanned Granted same t root pin task course now env task' course' scan' report out
      → IsRead Granted same t root pin (at (stage.Scan course scan) task) env (at (stage.Scan course' scan') task') report out
  scanned_now going task' course' scan' env report out s =
      reads Granted same t root pin task task' course course' scan scan' env report out facts.small (ranging_in t root pin task course scan going facts.at)
      (subst (λ (x : Scan). IsScanned Granted same t root pin task course x env task' course' scan' report out) (sym is) s)
