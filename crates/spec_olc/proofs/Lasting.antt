-- The invariants of a run.
use Rattle.std.proofs.Common.{◌≡◌, ℕ, List, [], ◌∷◌, Some, inl, inr, ◌⊎◌, sym, subst, ap, ◌∙◌}
use Rattle.std.proofs.lemmas.Bool.Decides.{eqb_tells}
use Rattle.spec_map.proofs.MapLaws.{lookup-without_other}
use Rattle.spec_map.specs.Map.{Pairs, lookup}
use Rattle.spec_olc.proofs.Obsolete.{obsolete_stays}
use Rattle.spec_olc.proofs.Seated.{seats_stay}
use Rattle.spec_olc.proofs.Standing.{upgrade_in_use}
use Rattle.spec_olc.specs.Kinds.{DoesAs}
use Rattle.spec_olc.specs.Lasting.{Frees, Locks, StaysObsolete, AllStayObsolete, IsHeldOnce, AfterEach}
use Rattle.spec_olc.specs.Lock.{IsObsolete}
use Rattle.spec_olc.specs.Runs.{Transition, IsMachineRun, Happens, same_number}
use Rattle.spec_olc.specs.State.{State, VersionedNode}
use Rattle.spec_olc.specs.WellFormed.{IsWellFormed}
use Rattle.spec_olc.specs.declared.trace.Line.{Line}
use Rattle.spec_olc.specs.declared.trace.Line.TheVariants.{Done as Made, Skipped}
use Rattle.spec_olc.specs.declared.types.Event.{Event}
use Rattle.spec_olc.specs.declared.types.Event.TheVariants.{Start, Step, Reclaim}
use Rattle.spec_olc.specs.declared.types.Kind.TheVariants as kind
use Rattle.spec_olc.specs.declared.types.Kind.{Kind}
use Rattle.spec_olc.specs.declared.types.Report.{Report}

start_upgrade : kind.Start ≡ kind.Upgrade → ⊥
start_upgrade e = cc

reclaim_upgrade : kind.Reclaim ≡ kind.Upgrade → ⊥
reclaim_upgrade e = cc

module _ (old new : State ℕ) (w : IsWellFormed old) (s : ℕ) (a : VersionedNode ℕ) (here : lookup old.nodes s ≡ Some a) (obsolete : IsObsolete a.word) where
  one_event : (event : Event ℕ) (line : Line) → Happens old event line new → Frees s event line ⊎ ((lookup new.nodes s ≡ Some a) × (Locks s line → ⊥))
  one_event event Skipped h = inr (ap (λ (t : State ℕ). lookup t.nodes s) h.1 ∙ here, λ locks. locks)
  one_event (Start id op) (Made report out seen) h =
      inr (ap (λ (t : State ℕ). lookup t.nodes s) h.1.0.after ∙ here, λ locks. start_upgrade (sym (ap (λ (r : Report). r.kind) h.1.0.is) ∙ locks.0))
  one_event (Step id env) (Made report out seen) h =
      inr (
        obsolete_stays (Unit {0}) same_number old new id h.1.0.call env report out w h.1.0.in_flight s a here obsolete report.kind h.1.0.event,
        λ locks.
            upgrade_in_use (Unit {0}) same_number old new id h.1.0.call env report out
            (subst (λ (k : Kind). DoesAs (Unit {0}) same_number old new id h.1.0.call env report out k) locks.0 h.1.0.event).1
            s a locks.1 locks.2 here obsolete,
      )
  one_event (Reclaim slot) (Made report out seen) h =
      elim (eqb_tells slot s) [
        | inl at ↦ inl at.1
        | inr far ↦ inr (
          ap (λ (t : State ℕ). lookup t.nodes s) h.1.0.after ∙ (lookup-without_other old.nodes slot s (λ e. far.1 (sym e)) ∙ here),
          λ locks. reclaim_upgrade (sym (ap (λ (r : Report). r.kind) h.1.0.is) ∙ locks.0),
        )
      ]

stays : (old : State ℕ) (m : Pairs ℕ) (xs : List Transition) (n : Pairs ℕ) → IsWellFormed old → IsMachineRun old m xs n
    → (s : ℕ) (a : VersionedNode ℕ) → lookup old.nodes s ≡ Some a → IsObsolete a.word → StaysObsolete s a xs
stays old m [] n w run s a here obsolete = tt
stays old m (x ∷ xs) n w run s a here obsolete =
    elim (one_event old x.after w s a here obsolete x.event x.line run.0.happens) [
      | inl frees ↦ inl frees
      | inr kept ↦ inr (kept.0, kept.1, stays x.after x.content xs n run.0.well_formed run.1 s a kept.0 obsolete)
    ]

pub all_stay : (old : State ℕ) (m : Pairs ℕ) (xs : List Transition) (n : Pairs ℕ) → IsMachineRun old m xs n → AllStayObsolete xs
all_stay old m [] n run = tt
all_stay old m (x ∷ xs) n run = (λ s a here obsolete. stays x.after x.content xs n run.0.well_formed run.1 s a here obsolete, all_stay x.after x.content xs n run.1)

pub all_held_once : (old : State ℕ) (m : Pairs ℕ) (xs : List Transition) (n : Pairs ℕ) → IsMachineRun old m xs n → AfterEach IsHeldOnce xs
all_held_once old m [] n run = tt
all_held_once old m (x ∷ xs) n run = (run.0.well_formed.held_once, all_held_once x.after x.content xs n run.1)

same_seats : (old new : State ℕ) (event : Event ℕ) (line : Line) → Happens old event line new → new.seats ≡ old.seats
same_seats old new event Skipped h = ap (λ (t : State ℕ). t.seats) h.1
same_seats old new (Start id op) (Made report out seen) h = ap (λ (t : State ℕ). t.seats) h.1.0.after
same_seats old new (Step id env) (Made report out seen) h = seats_stay (Unit {0}) same_number old new id h.1.0.call env report out report.kind h.1.0.event
same_seats old new (Reclaim slot) (Made report out seen) h = ap (λ (t : State ℕ). t.seats) h.1.0.after

pub none_seated : (old : State ℕ) (m : Pairs ℕ) (xs : List Transition) (n : Pairs ℕ) → IsMachineRun old m xs n → old.seats ≡ [] → AfterEach (λ s. s.seats ≡ []) xs
none_seated old m [] n run none = tt
none_seated old m (x ∷ xs) n run none =
    let here : x.after.seats ≡ [] = same_seats old x.after x.event x.line run.0.happens ∙ none in (here, none_seated x.after x.content xs n run.1 here)
