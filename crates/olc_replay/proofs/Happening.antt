-- What one event of a schedule does, by the contracts of the machine's methods.
use Rattle.std.proofs.Common.{◌≡◌, ℕ, ◌^◌, ◌<◌, [], Option, Some, None, IsSome, refl, sym, subst, ap, ◌∙◌}
use Rattle.spec_map.specs.Map.{lookup}
use Rattle.spec_olc.specs.Calls.{asked_of}
use Rattle.spec_olc.specs.Kinds.{MayReclaim}
use Rattle.spec_olc.specs.Runs.{IsEnabled, same_number, read_by, decided_by, decided_at}
use Rattle.spec_olc.specs.State.{CallState}
use Rattle.spec_olc.specs.declared.trace.Decision.{Decision}
use Rattle.spec_olc.specs.declared.trace.Line.TheVariants.{Done as Made, Skipped}
use Rattle.spec_olc.specs.declared.types.Env.{Env}
use Rattle.spec_olc.specs.declared.types.Event.{Event}
use Rattle.spec_olc.specs.declared.types.Event.TheVariants.{Start, Step, Reclaim}
use Rattle.spec_olc.specs.declared.types.Kind.{Kind}
use Rattle.spec_olc.specs.declared.types.Kind.TheVariants as kind
use Rattle.spec_olc.specs.declared.types.Op.{Op}
use Rattle.spec_olc.specs.declared.types.Outcome.{Outcome}
use Rattle.spec_olc.specs.declared.types.Outcome.TheVariants.{Going}
use Rattle.spec_olc.specs.declared.types.Report.{Report}
use Rattle.spec_olc.specs.declared.types.Seen.{Seen}
use Rattle.olc_state.specs.declared.stage.Record.{Record}
use Rattle.olc_state.specs.inner.Facts.{IsSoundWorld}
use Rattle.olc_state.specs.inner.Shown.{flight, state_of}
use Rattle.olc_state.specs.inner.Turns.{IsBegun, IsFreed, IsTurn}
use Rattle.olc_state.specs.inner.World.{World, record_of}
use Rattle.olc_state.proofs.Options.{none_some}
use Rattle.olc_replay.specs.inner.Played.{last_read, noted, IsHappening}
use Rattle.olc_replay.proofs.Flying.{flies, in_flight, no_call, small_at}

no_flight : let n : Option (CallState ℕ) = None in IsSome n → ⊥
no_flight h = cc

no_record : let n : Option (Record ℕ) = None in IsSome n → ⊥
no_record h = cc

-- what is skipped decides nothing
skips : (w : World ℕ) (event : Event ℕ) → decided_at (state_of w) event Skipped ≡ []
skips w (Start id op) = refl
skips w (Step id env) = refl
skips w (Reclaim slot) = refl

pub skipped_event : (w : World ℕ) (event : Event ℕ) → (IsEnabled (state_of w) event → ⊥) → IsHappening w event Skipped None w
skipped_event w event never = record { plays = (never, refl); decided_is = sym (skips w event) }

-- a Start of a number that has a record
pub start_in_flight : (w : World ℕ) (id : ℕ) (op : Op ℕ) → id < 2 ^ 64 → IsSoundWorld (Unit {0}) same_number w → IsSome (record_of w id) → IsHappening w (Start id op) Skipped None w
start_in_flight w id op small sound some =
    skipped_event w (Start id op) (λ enabled. no_record (subst (λ (x : Option (Record ℕ)). IsSome x) (no_call w id sound small enabled) some))

pub start_made : (w after : World ℕ) (id : ℕ) (op : Op ℕ) (report : Report) → IsBegun (Unit {0}) same_number w after id op report
    → IsHappening w (Start id op) (Made report Going None) None after
start_made w after id op report begun = record { plays = (begun, refl, refl); decided_is = refl }

-- a Reclaim of a slot that may not be reclaimed
pub reclaim_too_early : (w after : World ℕ) (slot : ℕ) → (MayReclaim (state_of w) slot → ⊥) → after ≡ w → IsHappening w (Reclaim slot) Skipped None after
reclaim_too_early w after slot never same = record { plays = (never, same); decided_is = refl }

-- a Reclaim that is done
pub reclaim_made : (w after : World ℕ) (slot : ℕ) (report : Report) → IsFreed (Unit {0}) same_number w after slot report → IsHappening w (Reclaim slot) (Made report Going None) None after
reclaim_made w after slot report freed = record { plays = (freed, refl, refl); decided_is = refl }

-- a Step of a number that has no record
not_flying : (w : World ℕ) (id : ℕ) (f : Option (CallState ℕ)) → lookup (state_of w).calls id ≡ f → record_of w id ≡ None → IsSome f → ⊥
not_flying w id None e none some = no_flight some
not_flying w id (Some f) e none some = let has = flies w id f e in none_some has.call (sym none ∙ has.found)

pub step_unknown : (w : World ℕ) (id : ℕ) (env : Env ℕ) → record_of w id ≡ None → IsHappening w (Step id env) Skipped None w
step_unknown w id env none = skipped_event w (Step id env) (λ enabled. not_flying w id (lookup (state_of w).calls id) refl none enabled)

-- what a Read reported is in the record
read_in : (k : Kind) (pin : ℕ) (r : Record ℕ) → read_by k (Some (flight pin r)) ≡ last_read k (Some r)
read_in kind.Reclaim pin r = refl
read_in k pin r = refl

read_none : (k : Kind) → read_by k None ≡ last_read k None
read_none kind.Reclaim = refl
read_none k = refl

not_seen : (w : World ℕ) (id : ℕ) (f : Option (CallState ℕ)) → lookup (state_of w).calls id ≡ f → record_of w id ≡ None → f ≡ None
not_seen w id None e none = refl
not_seen w id (Some f) e none = let has = flies w id f e in absurd (none_some has.call (sym none ∙ has.found))

read_at : (w : World ℕ) (id : ℕ) (k : Kind) (x : Option (Record ℕ)) → IsSoundWorld (Unit {0}) same_number w → id < 2 ^ 64 → record_of w id ≡ x → last_read k x ≡ read_by k (lookup (state_of w).calls id)
read_at w id k None sound small e = sym (ap (read_by k) (not_seen w id (lookup (state_of w).calls id) refl e) ∙ read_none k)
read_at w id k (Some r) sound small e = let f = in_flight w id r sound small e in sym (ap (read_by k) f.2 ∙ read_in k f.0 r)

-- a Step of a number that has a record
pub step_made : (w after : World ℕ) (id : ℕ) (env : Env ℕ) (report : Report) (out : Outcome ℕ) (seen : Option (Seen ℕ)) (decided : Option Decision) (r : Record ℕ)
    → IsTurn (Unit {0}) same_number w after id env report out → record_of w id ≡ Some r → seen ≡ last_read report.kind (record_of after id)
    → ((call : CallState ℕ) → call.op ≡ r.task.op → asked_of call.asking ≡ asked_of r.task.asking → noted decided ≡ decided_by id (Some call) out)
    → IsHappening w (Step id env) (Made report out seen) decided after
step_made w after id env report out seen decided r turn found saw shows =
    let small : id < 2 ^ 64 = small_at w id turn.step.call turn.step.in_flight in
    let f = in_flight w id r turn.before small found in
    record {
      plays = (turn, saw ∙ read_at after id report.kind (record_of after id) turn.after small refl);
      decided_is = shows (flight f.0 r) refl refl ∙ ap (λ (x : Option (CallState ℕ)). decided_by id x out) (sym f.2);
    }
