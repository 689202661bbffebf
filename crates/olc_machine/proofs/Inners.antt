-- The laws of changed insides, with payloads replaced by their meanings.
use Rattle.std.proofs.Common.{◌≡◌, ◌≢◌, ℕ, ◌<◌, ◌^◌, Bool, true, false, List, [], Option, Some, None, IsSome, inl, inr, refl, sym, subst, ap, ◌∙◌}
use Rattle.std.proofs.lemmas.Bool.{cases_lt, false≢true, le-ltb, lt-ltb, ne_eqb}
use Rattle.std.specs.BTreeMap.{BTreeMap, WritesThrough, is_at}
use Rattle.std.specs.Ordering.{nat_cmp}
use Rattle.spec_map.specs.Map.{lookup}
use Rattle.spec_olc.specs.Calls.{key_of}
use Rattle.spec_olc.specs.Kinds.{report_of}
use Rattle.spec_olc.specs.Meaning.{in_some}
use Rattle.spec_olc.specs.Seats.{IsTaken, IsReseated}
use Rattle.spec_olc.specs.declared.types.Env.{Env}
use Rattle.spec_olc.specs.declared.types.Kind.TheVariants as kind
use Rattle.spec_olc.specs.declared.types.Op.{Op}
use Rattle.spec_olc.specs.declared.types.Outcome.{Outcome}
use Rattle.spec_olc.specs.declared.types.Report.{Report}
use Rattle.olc_words.specs.Epoch.{PinsView, ChangesSeat, entry_at, pin_of, is_seated}
use Rattle.olc_state.specs.declared.stage.Record.{Record}
use Rattle.olc_state.specs.declared.stage.Task.{Task}
use Rattle.olc_state.specs.inner.Facts.{IsSoundWorld}
use Rattle.olc_state.specs.inner.Meant.{meant_calls, meant_record, meant_world}
use Rattle.olc_state.specs.inner.Places.{ChangesPlace}
use Rattle.olc_state.specs.inner.Shown.{held_at, state_of}
use Rattle.olc_state.specs.inner.Turns.{IsAdvance, IsBegun, IsTurn}
use Rattle.olc_state.specs.inner.World.{World, record_in, record_of, table_of}
use Rattle.olc_state.proofs.States.{meant_call, meant_place, shown_seat}
use Rattle.olc_machine.specs.inner.Inside.{IsBegunBy}
use Rattle.olc_machine.proofs.Ends.{begun_at}
use Rattle.olc_machine.proofs.Changing.{reseated_sound, reseated, unchanged}
use Rattle.olc_machine.proofs.Handed.{none_there, nothing_there, unrecorded}
use Rattle.olc_machine.proofs.Turning.{begun_sound, begun_turn, on_turn, gone_turn}

module _ {A B : Type 0} (f : A → B) where
  some_mapped : (x : Option A) → IsSome x → IsSome (in_some f x)
  some_mapped None h = absurd (nothing_there A h)
  some_mapped (Some a) h = refl

module _ {A B : Type 0} (f : Record A → Record B) where
  in_record : (x : Option (Option (Record A))) → record_in (in_some (in_some f) x) ≡ in_some f (record_in x)
  in_record None = refl
  in_record (Some r) = refl

-- if a number isn't seated after a change that kept its seat, it wasn't seated before
pub never_seated : (told now before : Bool) → told ≡ now → now ≡ before → told ≡ false → before ≡ true → ⊥
never_seated told now before is kept off on = false≢true (sym off ∙ (is ∙ (kept ∙ on)))

-- two changes of one number's place
pub then_changes : {P : Type 0} (old mid new : List (ℕ × Option (Record P))) (id : ℕ) (x y : Option (Option (Record P)))
    → ChangesPlace old mid id x → ChangesPlace mid new id y → ChangesPlace old new id y
then_changes old mid new id x y a b = record { here = b.here; others = λ o ne. b.others o ne ∙ a.others o ne }

-- a number at which another one's search doesn't end
apart : (id o : ℕ) → o ≢ id → is_at (nat_cmp id) o ≡ false
apart id o ne =
    elim (cases_lt id o) [
      | inl less ↦ rw (lt-ltb id o less) refl
      | inr more ↦ rw (le-ltb id o more, ne_eqb id o (λ e. ne (sym e))) refl
    ]

-- a place that is written where it is
pub written_through : {P : Type 0} (m n : BTreeMap ℕ (Option (Record P))) (id : ℕ) (place : Option (Record P)) → IsSome (entry_at m.entries id) → WritesThrough nat_cmp (nat_cmp id) m place n
    → ChangesPlace m.entries n.entries id (Some place)
written_through m n id place there h = let u = h.3 there in record { here = u.1; others = λ o ne. u.2 o (apart id o ne) }

module _ {P M : Type 0} (meaning : P → M) where
  pub meant_changes : (old new : List (ℕ × Option (Record P))) (id : ℕ) (place : Option (Option (Record P)))
      → ChangesPlace old new id place
      → ChangesPlace (meant_calls meaning old) (meant_calls meaning new) id (in_some (in_some (meant_record meaning)) place)
  meant_changes old new id place ch = record {
    here = meant_place meaning new id ∙ ap (in_some (in_some (meant_record meaning))) ch.here;
    others = λ o ne. meant_place meaning new o ∙ (ap (in_some (in_some (meant_record meaning))) (ch.others o ne) ∙ sym (meant_place meaning old o));
  }

  module _ (Granted : Type 0) (same : M → M → Bool) (w : World P) (id : ℕ) (small : id < 2 ^ 64) (sound : IsSoundWorld Granted same (meant_world meaning w)) where
    -- a number that isn't taken has no record, and isn't seated
    freed : (IsTaken (state_of w) id → ⊥) → record_of w id ≡ None
    freed free = unrecorded meaning Granted same w id small sound (none_there (lookup (state_of w).calls id) (λ h. free (inr h)))

    unseated : (IsTaken (state_of w) id → ⊥) → is_seated w.pins id ≡ true → ⊥
    unseated free e = free (inl (shown_seat w id ∙ e))

    mapped_some : (x : Option (Option (Record P))) → IsSome (in_some (in_some (meant_record meaning)) x) → IsSome x
    mapped_some None h = absurd (nothing_there (Option (Record M)) h)
    mapped_some (Some r) h = refl

    -- a seated number has a place for its record
    pub seat_has_room : is_seated w.pins id ≡ true → IsSome (entry_at w.calls id)
    seat_has_room e = mapped_some (entry_at w.calls id) (subst (λ (x : Option (Option (Record M))). IsSome x) (meant_place meaning w.calls id) (sound.seated id e))

    module _ (pins : PinsView) (calls : List (ℕ × Option (Record P))) where
      reseats : (seated : Bool) (place : Option (Option (Record P)))
          → ChangesSeat w.pins pins id seated (pin_of w.pins id) → ChangesPlace w.calls calls id place
          → record_in place ≡ record_of w id → (seated ≡ true → IsSome place)
          → IsSoundWorld Granted same (meant_world meaning (record w { pins = pins; calls = calls }))
      reseats seated place seat places stays room =
          reseated_sound (meant_world meaning w) pins (meant_calls meaning calls) id seated (in_some (in_some (meant_record meaning)) place) seat
          (meant_changes w.calls calls id place places)
          (in_record (meant_record meaning) place ∙ (ap (in_some (meant_record meaning)) stays ∙ sym (meant_call meaning w id)))
          Granted same sound (λ e. some_mapped (in_some (meant_record meaning)) place (room e))

      -- A SEAT IS KEPT, or isn't.
      pub keeps_room : (IsTaken (state_of w) id → ⊥) → ChangesPlace w.calls calls id (Some None)
          → ChangesSeat w.pins pins id true (pin_of w.pins id)
          → IsSoundWorld Granted same (meant_world meaning (record w { pins = pins; calls = calls }))
          × IsReseated (state_of w) (state_of (record w { pins = pins; calls = calls })) id true
      keeps_room free places seat = (
        reseats true (Some None) seat places (sym (freed free)) (λ e. refl),
        reseated w pins calls id true (Some None) seat places (sym (freed free)),
      )

      pub keeps_none : (mid : List (ℕ × Option (Record P))) → (IsTaken (state_of w) id → ⊥) → ChangesPlace w.calls mid id (Some None)
          → pins ≡ w.pins → ChangesPlace mid calls id None
          → IsSoundWorld Granted same (meant_world meaning (record w { pins = pins; calls = calls }))
          × (state_of (record w { pins = pins; calls = calls }) ≡ state_of w)
      keeps_none mid free reserves same forgets =
          let places : ChangesPlace w.calls calls id None = then_changes w.calls mid calls id (Some None) None reserves forgets in
          let seat : ChangesSeat w.pins pins id (is_seated w.pins id) (pin_of w.pins id) = record {
            seat = ap (λ p. is_seated p id) same;
            pinned = ap (λ p. pin_of p id) same;
            other_seats = λ o ne. ap (λ p. is_seated p o) same;
            other_pins = λ o ne. ap (λ p. pin_of p o) same;
            slots = ap (λ (p : PinsView). p.slots) same;
            count = ap (λ (p : PinsView). p.count) same;
          } in (
            reseats (is_seated w.pins id) None seat places (sym (freed free)) (λ e. absurd (unseated free e)),
            unchanged w pins calls id (is_seated w.pins id) None seat places (sym (freed free)) refl,
          )

      -- A SEAT IS FREED.
      pub unseats : record_of w id ≡ None → ChangesSeat w.pins pins id false (pin_of w.pins id) → ChangesPlace w.calls calls id None
          → IsSoundWorld Granted same (meant_world meaning (record w { pins = pins; calls = calls }))
          × IsReseated (state_of w) (state_of (record w { pins = pins; calls = calls })) id false
      unseats none seat places = (
        reseats false None seat places (sym none) (λ e. absurd (false≢true e)),
        reseated w pins calls id false None seat places (sym none),
      )

      pub unseats_flying : calls ≡ w.calls → ChangesSeat w.pins pins id false (pin_of w.pins id)
          → IsSoundWorld Granted same (meant_world meaning (record w { pins = pins; calls = calls }))
          × IsReseated (state_of w) (state_of (record w { pins = pins; calls = calls })) id false
      unseats_flying same seat =
          let place = entry_at w.calls id in
          let places : ChangesPlace w.calls calls id place = record {
            here = ap (λ es. entry_at es id) same;
            others = λ o ne. ap (λ es. entry_at es o) same;
          } in (
            reseats false place seat places refl (λ e. absurd (false≢true e)),
            reseated w pins calls id false place seat places refl,
          )

      -- A CALL BEGINS, or doesn't.
      pub begins : (op : Op M) (r : Record P) → key_of op < 2 ^ 64 → IsBegunBy op (meant_record meaning r) → record_of w id ≡ None
          → ChangesSeat w.pins pins id (is_seated w.pins id) (Some w.pins.count) → ChangesPlace w.calls calls id (Some (Some r))
          → IsSoundWorld Granted same (meant_world meaning (record w { pins = pins; calls = calls }))
          × IsBegun Granted same (meant_world meaning w) (meant_world meaning (record w { pins = pins; calls = calls })) id op (report_of kind.Start None 0 true)
      begins op r least begun none enters places =
          let is : meant_record meaning r ≡ begun_at op r.stage = ap (λ (task : Task M). record { stage = r.stage; task = task }) begun.task in
          let there : ChangesPlace (meant_calls meaning w.calls) (meant_calls meaning calls) id (Some (Some (begun_at op r.stage))) =
          subst (λ (q : Record M). ChangesPlace (meant_calls meaning w.calls) (meant_calls meaning calls) id (Some (Some q))) is (meant_changes w.calls calls id (Some (Some r)) places)
          in (
            begun_sound Granted same (meant_world meaning w) pins (meant_calls meaning calls) id sound small op r.stage begun.stage least
                (meant_call meaning w id ∙ ap (in_some (meant_record meaning)) none) enters there,
            begun_turn Granted same (meant_world meaning w) pins (meant_calls meaning calls) id sound small op r.stage begun.stage least
                (meant_call meaning w id ∙ ap (in_some (meant_record meaning)) none) enters there,
          )

      pub begins_none : (mid : PinsView) → record_of w id ≡ None → pin_of w.pins id ≡ None
          → ChangesSeat w.pins mid id (is_seated w.pins id) (Some w.pins.count) → ChangesSeat mid pins id (is_seated mid id) None
          → calls ≡ w.calls
          → IsSoundWorld Granted same (meant_world meaning (record w { pins = pins; calls = calls }))
          × (state_of (record w { pins = pins; calls = calls }) ≡ state_of w)
      begins_none mid none unpinned enters leaves same =
          let place = entry_at w.calls id in
          let places : ChangesPlace w.calls calls id place = record {
            here = ap (λ es. entry_at es id) same;
            others = λ o ne. ap (λ es. entry_at es o) same;
          } in
          let seat : ChangesSeat w.pins pins id (is_seated w.pins id) (pin_of w.pins id) = record {
            seat = leaves.seat ∙ enters.seat;
            pinned = leaves.pinned ∙ sym unpinned;
            other_seats = λ o ne. leaves.other_seats o ne ∙ enters.other_seats o ne;
            other_pins = λ o ne. leaves.other_pins o ne ∙ enters.other_pins o ne;
            slots = leaves.slots ∙ enters.slots;
            count = leaves.count ∙ enters.count;
          } in (
            reseats (is_seated w.pins id) place seat places refl seat_has_room,
            unchanged w pins calls id (is_seated w.pins id) place seat places refl refl,
          )

      -- AN EVENT of a call in flight, after which it goes on, and its last
      module _ (r : Record P) (pin : ℕ) (env : Env M) (report : Report) (out : Outcome M)
          (found : record_of w id ≡ Some r) (pinned : pin_of w.pins id ≡ Some pin) where
        meant_found : record_of (meant_world meaning w) id ≡ Some (meant_record meaning r)
        meant_found = meant_call meaning w id ∙ ap (in_some (meant_record meaning)) found

        pub goes_on : (next : Record P) → held_at r.stage ≡ [] → pins ≡ w.pins → ChangesPlace w.calls calls id (Some (Some next))
            → IsAdvance Granted same (table_of (meant_world meaning w)) w.root pin (meant_record meaning r) env (Some (meant_record meaning next)) report out
            → IsTurn Granted same (meant_world meaning w) (meant_world meaning (record w { pins = pins; calls = calls })) id env report out
        goes_on next held same_pins places advance =
            on_turn Granted same (meant_world meaning w) pins (meant_calls meaning calls) id sound small (meant_record meaning r) pin env report out meant_found pinned
            (meant_record meaning next) held
            (record {
              seat = ap (λ p. is_seated p id) same_pins;
              pinned = ap (λ p. pin_of p id) same_pins ∙ pinned;
              other_seats = λ o ne. ap (λ p. is_seated p o) same_pins;
              other_pins = λ o ne. ap (λ p. pin_of p o) same_pins;
              slots = ap (λ (p : PinsView). p.slots) same_pins;
              count = ap (λ (p : PinsView). p.count) same_pins;
            })
            (meant_changes w.calls calls id (Some (Some next)) places)
            advance

        pub is_last : (place : Option (Option (Record P))) → ChangesSeat w.pins pins id (is_seated w.pins id) None
            → ChangesPlace w.calls calls id place → record_in place ≡ None → (is_seated w.pins id ≡ true → IsSome place)
            → IsAdvance Granted same (table_of (meant_world meaning w)) w.root pin (meant_record meaning r) env None report out
            → IsTurn Granted same (meant_world meaning w) (meant_world meaning (record w { pins = pins; calls = calls })) id env report out
        is_last place leaves places gone room advance =
            gone_turn Granted same (meant_world meaning w) pins (meant_calls meaning calls) id sound small (meant_record meaning r) pin env report out meant_found pinned
            (in_some (in_some (meant_record meaning)) place) leaves
            (meant_changes w.calls calls id place places)
            (in_record (meant_record meaning) place ∙ ap (in_some (meant_record meaning)) gone)
            (λ e. some_mapped (in_some (meant_record meaning)) place (room e))
            advance
