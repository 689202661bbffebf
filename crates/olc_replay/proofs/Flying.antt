-- The calls in flight in a state, and their records inside the machine.
use Rattle.std.proofs.Common.{◌≡◌, ℕ, ◌^◌, ◌<◌, Option, Some, None, IsSome, refl, sym, ap, ◌∙◌}
use Rattle.spec_map.specs.Map.{lookup}
use Rattle.spec_olc.specs.Runs.{same_number}
use Rattle.spec_olc.specs.State.{CallState}
use Rattle.olc_words.specs.Epoch.{pin_of}
use Rattle.olc_state.specs.declared.stage.Record.{Record}
use Rattle.olc_state.specs.inner.Facts.{IsSoundWorld}
use Rattle.olc_state.specs.inner.Shown.{flight, flight_in, state_of}
use Rattle.olc_state.specs.inner.World.{World, record_of}
use Rattle.olc_state.proofs.States.{shown_flight, flights_map}
use Rattle.olc_state.proofs.Reaching.{lookup-inside}
use Rattle.olc_state.proofs.Options.{none_some, some_same}

no_number : let n : Option ℕ = None in IsSome n → ⊥
no_number h = cc

pinned_at : (p : Option ℕ) → IsSome p → (pin : ℕ) × (p ≡ Some pin)
pinned_at None h = absurd (no_number h)
pinned_at (Some pin) h = (pin, refl)

-- a number that is in flight has 64 bits
pub small_at : (w : World ℕ) (id : ℕ) (call : CallState ℕ) → lookup (state_of w).calls id ≡ Some call → id < 2 ^ 64
small_at w id call e = (lookup-inside 0 (2 ^ 64) (state_of w).calls id call (flights_map w) e).1

-- a number with a record is in flight
pub in_flight : (w : World ℕ) (id : ℕ) (r : Record ℕ) → IsSoundWorld (Unit {0}) same_number w → id < 2 ^ 64 → record_of w id ≡ Some r
    → (pin : ℕ) × (pin_of w.pins id ≡ Some pin) × (lookup (state_of w).calls id ≡ Some (flight pin r))
in_flight w id r sound small found =
    let p = pinned_at (pin_of w.pins id) (sound.pinned id r found) in
    (p.0, p.1, shown_flight w id small ∙ (ap (λ x. flight_in x (pin_of w.pins id)) found ∙ ap (λ x. flight_in (Some r) x) p.1))

-- a number in flight has a record
pub record Flies (w : World ℕ) (id : ℕ) (f : CallState ℕ) : Type 0 where
  pub small : id < 2 ^ 64
  pub call : Record ℕ
  pub found : record_of w id ≡ Some call
  pub outline : call.task.outline ≡ f.outline

flies_at : (w : World ℕ) (id : ℕ) (f : CallState ℕ) (x : Option (Record ℕ)) (p : Option ℕ) → id < 2 ^ 64 → record_of w id ≡ x → flight_in x p ≡ Some f → Flies w id f
flies_at w id f None p small found e = absurd (none_some f e)
flies_at w id f (Some r) None small found e = absurd (none_some f e)
flies_at w id f (Some r) (Some pin) small found e = record { small = small; call = r; found = found; outline = ap (λ (z : CallState ℕ). z.outline) (some_same (flight pin r) f e) }

pub flies : (w : World ℕ) (id : ℕ) (f : CallState ℕ) → lookup (state_of w).calls id ≡ Some f → Flies w id f
flies w id f e =
    let small : id < 2 ^ 64 = small_at w id f e in
    flies_at w id f (record_of w id) (pin_of w.pins id) small refl (sym (shown_flight w id small) ∙ e)

no_call_at : (w : World ℕ) (id : ℕ) (x : Option (Record ℕ)) → IsSoundWorld (Unit {0}) same_number w → id < 2 ^ 64 → lookup (state_of w).calls id ≡ None → record_of w id ≡ x → record_of w id ≡ None
no_call_at w id None sound small none e = e
no_call_at w id (Some r) sound small none e =
    let f = in_flight w id r sound small e in absurd (none_some (flight f.0 r) (sym none ∙ f.2))

-- a number that isn't in flight has no record
pub no_call : (w : World ℕ) (id : ℕ) → IsSoundWorld (Unit {0}) same_number w → id < 2 ^ 64 → lookup (state_of w).calls id ≡ None → record_of w id ≡ None
no_call w id sound small none = no_call_at w id (record_of w id) sound small none refl
