-- The inside after an event that writes no node, and changes only the seat and the call of one number. The call holds
-- the same nodes as before.
use Rattle.std.proofs.Common.{◌≡◌, ◌↔◌, ℕ, ◌<◌, ◌≤◌, ◌^◌, Bool, true, List, Option, None, Some, IsSome, inl, inr, refl, sym, subst, ap, ◌∙◌}
use Rattle.std.proofs.lemmas.Bool.{cases_lt}
use Rattle.std.proofs.lemmas.Bool.Decides.{eqb_tells}
use Rattle.spec_map.proofs.MapLaws.{same_from_lookups}
use Rattle.spec_olc.specs.Seats.{IsReseated}
use Rattle.olc_words.specs.Epoch.{PinsView, ChangesSeat, entry_at, pin_of, is_seated}
use Rattle.olc_state.specs.declared.stage.Record.{Record}
use Rattle.olc_state.specs.inner.Tables.{IsPlaced, NeedsHolder}
use Rattle.olc_state.specs.inner.Facts.{Facts, Holding, IsSoundWorld, AllAdmitted}
use Rattle.olc_state.specs.inner.Places.{ChangesPlace}
use Rattle.olc_state.specs.inner.Shown.{nodes_from, flight_in, seats_on, state_of}
use Rattle.olc_state.specs.inner.World.{World, table_on, table_of, record_in, record_of}
use Rattle.olc_state.proofs.Changes.{same_content}
use Rattle.spec_map.proofs.JoinLaws.{lookup-above}
use Rattle.olc_state.proofs.Seats.{seats_same}
use Rattle.olc_state.proofs.States.{SameButCalls, OtherCallsStay, shown_flight, shown_seat, flights_map, state_is}

module _ {M : Type 0} where
  -- the nodes that a record holds; none without a record
  abbrev pub HeldBy : Option (Record M) → ℕ → Type 0
  HeldBy None s = ⊥
  HeldBy (Some r) s = Holding r.stage s

  abbrev pub SameHeld : Option (Record M) → Option (Record M) → Type 0
  SameHeld x y = (s : ℕ) → HeldBy x s ↔ HeldBy y s

  pub held_record : (x : Option (Record M)) (s : ℕ) → HeldBy x s → (r : Record M) × (x ≡ Some r) × Holding r.stage s
  held_record None s h = absurd h
  held_record (Some r) s h = (r, refl, h)

  pub record_held : (x : Option (Record M)) (r : Record M) (s : ℕ) → x ≡ Some r → Holding r.stage s → HeldBy x s
  record_held x r s e h = subst (λ (y : Option (Record M)). HeldBy y s) (sym e) h

  pub same_held : (x y : Option (Record M)) → x ≡ y → SameHeld x y
  same_held x y e s = subst (λ (z : Option (Record M)). HeldBy x s ↔ HeldBy z s) e ((λ h. h), (λ h. h))

  -- if neither holds a node
  pub none_held : (x y : Option (Record M)) → ((s : ℕ) → HeldBy x s → ⊥) → ((s : ℕ) → HeldBy y s → ⊥) → SameHeld x y
  none_held x y nx ny s = ((λ h. absurd (nx s h)), (λ h. absurd (ny s h)))

module _ {M : Type 0} (w : World M) (pins : PinsView) (calls : List (ℕ × Option (Record M))) (id : ℕ)
    (seated : Bool) (pin : Option ℕ) (place : Option (Option (Record M)))
    (seat : ChangesSeat w.pins pins id seated pin) (places : ChangesPlace w.calls calls id place) where
  pub changed_sound : (Granted : Type 0) (same : M → M → Bool) → IsSoundWorld Granted same w
      → ((r : Record M) (p : ℕ) → record_in place ≡ Some r → pin ≡ Some p → Facts Granted same (table_of w) w.root p r)
      → ((r : Record M) → record_in place ≡ Some r → IsSome pin)
      → ((p : ℕ) → pin ≡ Some p → IsSome (record_in place))
      → (seated ≡ true → IsSome place)
      → ((p : ℕ) → pin ≡ Some p → p ≤ w.pins.count)
      → SameHeld (record_in place) (record_of w id)
      → ((r : Record M) → record_in place ≡ Some r → id < 2 ^ 64)
      → IsSoundWorld Granted same (record w { pins = pins; calls = calls })
  changed_sound Granted same sound facts pinned called room before holds small =
      let here = ap record_in places.here in
      let all : (o : ℕ) → SameHeld (record_in (entry_at calls o)) (record_of w o) = λ o.
      elim (eqb_tells o id) [
        | inl same ↦ subst (λ z. SameHeld (record_in (entry_at calls z)) (record_of w z)) (sym same.1)
            (subst (λ (x : Option (Record M)). SameHeld x (record_of w id)) (sym here) holds)
        | inr off ↦ same_held (record_in (entry_at calls o)) (record_of w o) (ap record_in (places.others o off.1))
      ] in
      record {
        placed = subst (λ l. IsPlaced (table_on w.slots l) w.root) (sym seat.slots) sound.placed;
        facts = λ o p r e f. subst (λ l. Facts Granted same (table_on w.slots l) w.root p r) (sym seat.slots)
            (elim (eqb_tells o id) [
              | inl same ↦ facts r p (sym here ∙ subst (λ z. record_in (entry_at calls z) ≡ Some r) same.1 e) (sym seat.pinned ∙ subst (λ z. pin_of pins z ≡ Some p) same.1 f)
              | inr off ↦ sound.facts o p r (sym (ap record_in (places.others o off.1)) ∙ e) (sym (seat.other_pins o off.1) ∙ f)
            ]);
        pinned = λ o r e.
            elim (eqb_tells o id) [
              | inl same ↦
                  let is = pinned r (sym here ∙ subst (λ z. record_in (entry_at calls z) ≡ Some r) same.1 e) in
                  subst (λ z. IsSome (pin_of pins z)) (sym same.1) (subst (λ (x : Option ℕ). IsSome x) (sym seat.pinned) is)
              | inr off ↦ subst (λ (x : Option ℕ). IsSome x) (sym (seat.other_pins o off.1)) (sound.pinned o r (sym (ap record_in (places.others o off.1)) ∙ e))
            ];
        called = λ o p f.
            elim (eqb_tells o id) [
              | inl same ↦
                  let is = called p (sym seat.pinned ∙ subst (λ z. pin_of pins z ≡ Some p) same.1 f) in
                  subst (λ z. IsSome (record_in (entry_at calls z))) (sym same.1) (subst (λ (x : Option (Record M)). IsSome x) (sym here) is)
              | inr off ↦ subst (λ (x : Option (Option (Record M))). IsSome (record_in x)) (sym (places.others o off.1)) (sound.called o p (sym (seat.other_pins o off.1) ∙ f))
            ];
        numbered = λ o r e.
            elim (eqb_tells o id) [
              | inl same ↦ subst (λ z. z < 2 ^ 64) (sym same.1) (small r (sym here ∙ subst (λ z. record_in (entry_at calls z) ≡ Some r) same.1 e))
              | inr off ↦ sound.numbered o r (sym (ap record_in (places.others o off.1)) ∙ e)
            ];
        seated = λ o f.
            elim (eqb_tells o id) [
              | inl same ↦
                  let is = room (sym seat.seat ∙ subst (λ z. is_seated pins z ≡ true) same.1 f) in
                  subst (λ z. IsSome (entry_at calls z)) (sym same.1) (subst (λ (x : Option (Option (Record M))). IsSome x) (sym places.here) is)
              | inr off ↦ subst (λ (x : Option (Option (Record M))). IsSome x) (sym (places.others o off.1)) (sound.seated o (sym (seat.other_seats o off.1) ∙ f))
            ];
        before = λ o p f. subst (λ n. p ≤ n) (sym seat.count)
            (elim (eqb_tells o id) [
              | inl same ↦ before p (sym seat.pinned ∙ subst (λ z. pin_of pins z ≡ Some p) same.1 f)
              | inr off ↦ sound.before o p (sym (seat.other_pins o off.1) ∙ f)
            ]);
        apart = λ i j s r q e f ne mine yours.
            let a = held_record (record_of w i) s ((all i s).0 (record_held (record_in (entry_at calls i)) r s e mine)) in
            let b = held_record (record_of w j) s ((all j s).0 (record_held (record_in (entry_at calls j)) q s f yours)) in
            sound.apart i j s a.0 b.0 a.1 b.1 ne a.2 b.2;
        held = λ s need.
            let old : NeedsHolder (table_of w) s = subst (λ l. NeedsHolder (table_on w.slots l) s) seat.slots need in
            let h = sound.held s old in
            let now = held_record (record_in (entry_at calls h.0)) s ((all h.0 s).1 (record_held (record_of w h.0) h.1 s h.2 h.3)) in
            (h.0, now.0, now.1, now.2);
        admitted = subst (λ l. AllAdmitted (table_on w.slots l) l) (sym seat.slots) sound.admitted;
        narrow = λ s a e. sound.narrow s a (subst (λ l. table_on w.slots l s ≡ Some a) seat.slots e);
        charged = sound.charged;
        counted = λ m c. sound.counted m
            (same_content (state_of (record w { pins = pins; calls = calls })) (state_of w) (ap (λ l. nodes_from l 0 w.slots) (sym seat.slots)) refl m c);
      }

  -- the parts of the state that a call's change leaves unchanged
  pub others_stay : OtherCallsStay w (record w { pins = pins; calls = calls }) id
  others_stay = record {
    records = λ o ne. ap record_in (places.others o ne);
    pins = seat.other_pins;
  }

  seats_stay : seated ≡ is_seated w.pins id → (k : ℕ) → is_seated pins k ≡ is_seated w.pins k
  seats_stay stays k =
      elim (eqb_tells k id) [
        | inl same ↦ subst (λ z. is_seated pins z ≡ is_seated w.pins z) (sym same.1) (seat.seat ∙ stays)
        | inr off ↦ seat.other_seats k off.1
      ]

  pub rest_stays : seated ≡ is_seated w.pins id → SameButCalls w (record w { pins = pins; calls = calls })
  rest_stays stays = record {
    slots = refl;
    lives = seat.slots;
    count = seat.count;
    seats = seats_same pins w.pins (seats_stay stays);
    root = refl;
    entries = refl;
    charge = refl;
  }

-- if only the seat of a number and the room for its record change, and its call is unchanged
module _ {M : Type 0} (w : World M) (pins : PinsView) (calls : List (ℕ × Option (Record M))) (id : ℕ)
    (seated : Bool) (place : Option (Option (Record M)))
    (seat : ChangesSeat w.pins pins id seated (pin_of w.pins id)) (places : ChangesPlace w.calls calls id place)
    (stays : record_in place ≡ record_of w id) where
  pub reseated_sound : (Granted : Type 0) (same : M → M → Bool) → IsSoundWorld Granted same w → (seated ≡ true → IsSome place) → IsSoundWorld Granted same (record w { pins = pins; calls = calls })
  reseated_sound Granted same sound room =
      changed_sound w pins calls id seated (pin_of w.pins id) place seat places Granted same sound
      (λ r p e f. sound.facts id p r (sym stays ∙ e) f)
      (λ r e. sound.pinned id r (sym stays ∙ e))
      (λ p f. subst (λ (x : Option (Record M)). IsSome x) (sym stays) (sound.called id p f))
      room
      (λ p f. sound.before id p f)
      (same_held (record_in place) (record_of w id) stays)
      (λ r e. sound.numbered id r (sym stays ∙ e))

  same_flight : (o : ℕ) → flight_in (record_in (entry_at calls o)) (pin_of pins o) ≡ flight_in (record_of w o) (pin_of w.pins o)
  same_flight o =
      elim (eqb_tells o id) [
        | inl e ↦ subst (λ z. flight_in (record_in (entry_at calls z)) (pin_of pins z) ≡ flight_in (record_of w z) (pin_of w.pins z)) (sym e.1)
            (ap (λ x. flight_in (record_in x) (pin_of pins id)) places.here ∙ (ap (λ x. flight_in x (pin_of pins id)) stays ∙ ap (λ x. flight_in (record_of w id) x) seat.pinned))
        | inr off ↦ ap (λ x. flight_in (record_in x) (pin_of pins o)) (places.others o off.1) ∙ ap (λ x. flight_in (record_of w o) x) (seat.other_pins o off.1)
      ]

  same_flights : (state_of (record w { pins = pins; calls = calls })).calls ≡ (state_of w).calls
  same_flights =
      let now : World M = record w { pins = pins; calls = calls } in
      same_from_lookups 0 (2 ^ 64) 0 (2 ^ 64) (state_of now).calls (state_of w).calls (flights_map now) (flights_map w) (λ k.
      elim (cases_lt k (2 ^ 64)) [
        | inl small ↦ shown_flight now k small ∙ (same_flight k ∙ sym (shown_flight w k small))
        | inr wide ↦ lookup-above 0 (2 ^ 64) (state_of now).calls k (flights_map now) wide ∙ sym (lookup-above 0 (2 ^ 64) (state_of w).calls k (flights_map w) wide)
      ])

  reseated_state : state_of (record w { pins = pins; calls = calls }) ≡ record (state_of w) { seats = seats_on pins.seats }
  reseated_state =
      let now : World M = record w { pins = pins; calls = calls } in
      state_is (state_of now) (state_of w).nodes w.root w.pins.count (state_of w).calls (seats_on pins.seats) w.entries w.charge
      (ap (λ l. nodes_from l 0 w.slots) seat.slots) refl seat.count same_flights refl refl refl

  pub reseated : IsReseated (state_of w) (state_of (record w { pins = pins; calls = calls })) id seated
  reseated =
      let now : World M = record w { pins = pins; calls = calls } in
      record {
        here = shown_seat now id ∙ seat.seat;
        others = λ o ne. shown_seat now o ∙ (seat.other_seats o ne ∙ sym (shown_seat w o));
        rest = reseated_state;
      }

  pub unchanged : seated ≡ is_seated w.pins id → state_of (record w { pins = pins; calls = calls }) ≡ state_of w
  unchanged same =
      reseated_state ∙ ap (λ l. record (state_of w) { seats = l }) (rest_stays w pins calls id seated (pin_of w.pins id) place seat places same).seats
