-- The laws of what a reader sees of the inside.
use Rattle.std.proofs.Common.{◌≡◌, ◌≢◌, ℕ, zero, suc, ◌+◌, ◌<◌, ◌≤◌, ◌^◌, Bool, true, false, List, [], ◌∷◌, length, map, Option, Some, None, if◌then◌else◌, ◌==◌, ◌||◌, inl, inr, refl, ap, sym, subst, ◌∙◌, arith, slice_index_or}
use Rattle.std.proofs.lemmas.Bool.{lt-ltb, le-ltb, eq-eqb, ne_eqb, cases_eq, cases_lt, cases_order}
use Rattle.std.proofs.lemmas.Bool.Decides.{eqb_tells}
use Rattle.node_table.specs.Charge.{Charge}
use Rattle.spec_map.specs.Map.{lookup, put, without, with_answer, Rises, IsMap}
use Rattle.spec_map.proofs.JoinLaws.{lookup-above}
use Rattle.spec_map.proofs.MapLaws.{Rises-wider, Rises-put, Rises-without, lookup-put_same, lookup-put_other, lookup-without_same, lookup-without_other, same_from_lookups}
use Rattle.node_table.specs.inner.Kinds.{mapped}
use Rattle.spec_olc.specs.Meaning.{in_some, meant}
use Rattle.spec_olc.specs.Meaning as meaning_of
use Rattle.spec_olc.specs.Lists.{is_in, off}
use Rattle.spec_olc.specs.State.{State, CallState, with_call}
use Rattle.spec_olc.specs.State as state
use Rattle.olc_words.specs.Epoch.{PinsView, entry_at, pin_of, seated_in, is_seated}
use Rattle.olc_words.specs.declared.epoch.Seat.{Seat}
use Rattle.olc_words.specs.declared.epoch.Life.{Life}
use Rattle.olc_state.specs.declared.stage.Record.{Record}
use Rattle.olc_state.specs.declared.stage.Stored.{Stored}
use Rattle.olc_state.specs.inner.Meant.{meant_stored, meant_slots, meant_record, meant_calls, meant_world}
use Rattle.olc_state.specs.inner.Shown.{shown, nodes_from, flight, flight_in, with_flight, flights_on, with_seat, seats_on, state_of}
use Rattle.olc_state.specs.inner.Turns.{ShowsNodes}
use Rattle.olc_state.specs.inner.World.{World, placed_node, table_of, record_in, record_of}
use Rattle.olc_state.proofs.Entries.{entry-first, entry-next, answer_same, answer_other, Rises-answer, entry-mapped, answer-mapped, slot-mapped}

pub state_is : {X : Type 0} (s : State X) (nodes : List (ℕ × state.VersionedNode X)) (root count : ℕ) (calls : List (ℕ × CallState X)) (seats : List ℕ) (entries : ℕ) (charge : Option Charge)
    → s.nodes ≡ nodes → s.root ≡ root → s.count ≡ count → s.calls ≡ calls → s.seats ≡ seats → s.entries ≡ entries → s.charge ≡ charge
    → s ≡ record { nodes = nodes; root = root; count = count; calls = calls; seats = seats; entries = entries; charge = charge }
state_is s nodes root count calls seats entries charge a b c d e f g = rw (← a, ← b, ← c, ← d, ← e, ← f, ← g) refl

module _ {X : Type 0} (lives : List (ℕ × Life)) where
  pub nodes-rise : (n : ℕ) (slots : List (Option (Stored X))) → Rises n (n + length slots) (nodes_from lives n slots)
  nodes-rise n [] = tt
  nodes-rise n (x ∷ xs) =
      let top : ℕ = n + length (x ∷ xs) in
      let rest : Rises n top (nodes_from lives (n + 1) xs) = Rises-wider (n + 1) (n + 1 + length xs) n top (nodes_from lives (n + 1) xs) (omega arith) (omega arith) (nodes-rise (n + 1) xs) in
      Rises-answer n top (nodes_from lives (n + 1) xs) n (shown (placed_node (entry_at lives n) x)) rest (omega arith) (omega arith)

  nodes-at : (n : ℕ) (slots : List (Option (Stored X))) (o j : ℕ) → j ≡ n + o
      → lookup (nodes_from lives n slots) j ≡ shown (placed_node (entry_at lives j) (slice_index_or slots o None))
  nodes-at n [] zero j e = refl
  nodes-at n [] (suc o) j e = refl
  nodes-at n (x ∷ xs) zero j e =
      let same : j ≡ n = omega arith in
      let at : lookup (nodes_from lives n (x ∷ xs)) n ≡ shown (placed_node (entry_at lives n) x) = answer_same (n + 1) (n + 1 + length xs) (nodes_from lives (n + 1) xs) n (shown (placed_node (entry_at lives n) x)) (nodes-rise (n + 1) xs) in
      subst (λ k. lookup (nodes_from lives n (x ∷ xs)) k ≡ shown (placed_node (entry_at lives k) x)) (sym same) at
  nodes-at n (x ∷ xs) (suc o) j e =
      answer_other (nodes_from lives (n + 1) xs) n (shown (placed_node (entry_at lives n) x)) j (omega arith) ∙ nodes-at (n + 1) xs o j (omega arith)

module _ {X : Type 0} where
  flight_small : (fs : List (ℕ × CallState X)) (id : ℕ) (r : Option (Record X)) (pin : Option ℕ) → id < 2 ^ 64 → with_flight fs id r pin ≡ with_answer fs id (flight_in r pin)
  flight_small fs id r pin small = rw (lt-ltb id (2 ^ 64) small)

  flight_wide : (fs : List (ℕ × CallState X)) (id : ℕ) (r : Option (Record X)) (pin : Option ℕ) → 2 ^ 64 ≤ id → with_flight fs id r pin ≡ fs
  flight_wide fs id r pin wide = rw (le-ltb id (2 ^ 64) wide)

  flight_other : (fs : List (ℕ × CallState X)) (id : ℕ) (r : Option (Record X)) (pin : Option ℕ) (j : ℕ) → j ≢ id → lookup (with_flight fs id r pin) j ≡ lookup fs j
  flight_other fs id r pin j d =
      elim (cases_lt id (2 ^ 64)) [
        | inl small ↦ ap (λ m. lookup m j) (flight_small fs id r pin small) ∙ answer_other fs id (flight_in r pin) j d
        | inr wide ↦ ap (λ m. lookup m j) (flight_wide fs id r pin wide)
      ]

  flight_rises : (fs : List (ℕ × CallState X)) (id : ℕ) (r : Option (Record X)) (pin : Option ℕ) → IsMap fs → IsMap (with_flight fs id r pin)
  flight_rises fs id r pin h =
      elim (cases_lt id (2 ^ 64)) [
        | inl small ↦ subst IsMap (sym (flight_small fs id r pin small)) (Rises-answer 0 (2 ^ 64) fs id (flight_in r pin) h (omega arith) small)
        | inr wide ↦ subst IsMap (sym (flight_wide fs id r pin wide)) h
      ]

  module _ (pins : PinsView) where
    calls-rise : (calls : List (ℕ × Option (Record X))) → IsMap (flights_on pins calls)
    calls-rise [] = tt
    calls-rise (e ∷ calls) = flight_rises (flights_on pins calls) e.0 e.1 (pin_of pins e.0) (calls-rise calls)

    calls-at : (calls : List (ℕ × Option (Record X))) (id : ℕ) → id < 2 ^ 64 → lookup (flights_on pins calls) id ≡ flight_in (record_in (entry_at calls id)) (pin_of pins id)
    calls-at [] id small = refl
    calls-at ((k, r) ∷ calls) id small =
        let rest : List (ℕ × CallState X) = flights_on pins calls in
        elim (cases_eq k id) [
          | inl same ↦
              let first : lookup (with_flight rest id r (pin_of pins id)) id ≡ flight_in r (pin_of pins id) =
              ap (λ m. lookup m id) (flight_small rest id r (pin_of pins id) small) ∙ answer_same 0 (2 ^ 64) rest id (flight_in r (pin_of pins id)) (calls-rise calls) in
              ap (λ n. lookup (with_flight rest n r (pin_of pins n)) id) same ∙ first ∙ ap (λ x. flight_in (record_in x) (pin_of pins id)) (sym (entry-first (k, r) calls id same))
          | inr other ↦
              flight_other rest k r (pin_of pins k) id (λ e. other (sym e)) ∙ calls-at calls id small ∙ ap (λ x. flight_in (record_in x) (pin_of pins id)) (sym (entry-next (k, r) calls id other))
        ]

  -- what a reader sees of a slot, and of a number
  pub shown_node : (w : World X) (s : ℕ) → lookup (state_of w).nodes s ≡ shown (table_of w s)
  shown_node w s = nodes-at w.pins.slots 0 w.slots s s (omega arith)

  pub nodes_rise : (w : World X) → Rises 0 (length w.slots) (state_of w).nodes
  nodes_rise w = Rises-wider 0 (0 + length w.slots) 0 (length w.slots) (nodes_from w.pins.slots 0 w.slots) (omega arith) (omega arith) (nodes-rise w.pins.slots 0 w.slots)

  pub shown_flight : (w : World X) (id : ℕ) → id < 2 ^ 64 → lookup (state_of w).calls id ≡ flight_in (record_of w id) (pin_of w.pins id)
  shown_flight w id small = calls-at w.pins w.calls id small

  pub flights_map : (w : World X) → IsMap (state_of w).calls
  flights_map w = calls-rise w.pins w.calls

  pub shows : (w : World X) → ShowsNodes (table_of w) w.root (state_of w)
  shows w = record { nodes = shown_node w; root_is = refl }

module _ {P M : Type 0} (meaning : P → M) where
  -- the meaning of the content of a slot, of a number's place, and of its call
  pub meant_slot : (slots : List (Option (Stored P))) (s : ℕ) → slice_index_or (meant_slots meaning slots) s None ≡ in_some (meant_stored meaning) (slice_index_or slots s None)
  meant_slot slots s = slot-mapped (meant_stored meaning) slots s

  pub meant_place : (calls : List (ℕ × Option (Record P))) (id : ℕ) → entry_at (meant_calls meaning calls) id ≡ in_some (in_some (meant_record meaning)) (entry_at calls id)
  meant_place calls id = entry-mapped (in_some (meant_record meaning)) calls id

  record-mapped : (x : Option (Option (Record P))) → record_in (in_some (in_some (meant_record meaning)) x) ≡ in_some (meant_record meaning) (record_in x)
  record-mapped None = refl
  record-mapped (Some r) = refl

  pub meant_call : (w : World P) (id : ℕ) → record_of (meant_world meaning w) id ≡ in_some (meant_record meaning) (record_of w id)
  meant_call w id = ap record_in (meant_place w.calls id) ∙ record-mapped (entry_at w.calls id)

  shown-mapped : (life : Option Life) (x : Option (Stored P)) → in_some (meaning_of.node_meant meaning) (shown (placed_node life x)) ≡ shown (placed_node life (in_some (meant_stored meaning) x))
  shown-mapped life None = refl
  shown-mapped life (Some n) = refl

  nodes-mapped : (lives : List (ℕ × Life)) (n : ℕ) (slots : List (Option (Stored P))) → mapped (meaning_of.node_meant meaning) (nodes_from lives n slots) ≡ nodes_from lives n (meant_slots meaning slots)
  nodes-mapped lives n [] = refl
  nodes-mapped lives n (x ∷ xs) =
      answer-mapped (meaning_of.node_meant meaning) (nodes_from lives (n + 1) xs) n (shown (placed_node (entry_at lives n) x))
      ∙ ap (λ m. with_answer m n (in_some (meaning_of.node_meant meaning) (shown (placed_node (entry_at lives n) x)))) (nodes-mapped lives (n + 1) xs)
      ∙ ap (with_answer (nodes_from lives (n + 1) (meant_slots meaning xs)) n) (shown-mapped (entry_at lives n) x)

  flight-mapped : (r : Option (Record P)) (pin : Option ℕ) → in_some (meaning_of.flight_of meaning) (flight_in r pin) ≡ flight_in (in_some (meant_record meaning) r) pin
  flight-mapped None None = refl
  flight-mapped None (Some pin) = refl
  flight-mapped (Some r) None = refl
  flight-mapped (Some r) (Some pin) = refl

  with_flight-mapped : (fs : List (ℕ × CallState P)) (id : ℕ) (r : Option (Record P)) (pin : Option ℕ)
      → mapped (meaning_of.flight_of meaning) (with_flight fs id r pin) ≡ with_flight (mapped (meaning_of.flight_of meaning) fs) id (in_some (meant_record meaning) r) pin
  with_flight-mapped fs id r pin =
      let fs' : List (ℕ × CallState M) = mapped (meaning_of.flight_of meaning) fs in
      elim (cases_lt id (2 ^ 64)) [
        | inl small ↦
            ap (mapped (meaning_of.flight_of meaning)) (flight_small fs id r pin small) ∙ answer-mapped (meaning_of.flight_of meaning) fs id (flight_in r pin)
            ∙ ap (with_answer fs' id) (flight-mapped r pin) ∙ sym (flight_small fs' id (in_some (meant_record meaning) r) pin small)
        | inr wide ↦ ap (mapped (meaning_of.flight_of meaning)) (flight_wide fs id r pin wide) ∙ sym (flight_wide fs' id (in_some (meant_record meaning) r) pin wide)
      ]

  calls-mapped : (pins : PinsView) (calls : List (ℕ × Option (Record P))) → mapped (meaning_of.flight_of meaning) (flights_on pins calls) ≡ flights_on pins (meant_calls meaning calls)
  calls-mapped pins [] = refl
  calls-mapped pins (e ∷ calls) =
      with_flight-mapped (flights_on pins calls) e.0 e.1 (pin_of pins e.0) ∙ ap (λ m. with_flight m e.0 (in_some (meant_record meaning) e.1) (pin_of pins e.0)) (calls-mapped pins calls)

  pub meant_state : (w : World P) → meant meaning (state_of w) ≡ state_of (meant_world meaning w)
  meant_state w =
      ap (λ ns. record (meant meaning (state_of w)) { nodes = ns }) (nodes-mapped w.pins.slots 0 w.slots)
      ∙ ap (λ fs. record (state_of (meant_world meaning w)) { calls = fs }) (calls-mapped w.pins w.calls)

-- whether a number is in a list after it was entered or taken out
seat_in : (k : ℕ) (xs : List ℕ) → is_in k (with_seat k xs) ≡ true
seat_in k [] = rw (eq-eqb k k refl)
seat_in k (x ∷ xs) =
    elim (cases_order x k) [
      | inl same ↦ rw (le-ltb x k (omega arith), eq-eqb x k same, eq-eqb x k same)
      | inr (inl less) ↦ rw (lt-ltb x k less, ne_eqb x k (omega arith)) (seat_in k xs)
      | inr (inr more) ↦ rw (le-ltb x k (omega arith), ne_eqb x k (omega arith), eq-eqb k k refl)
    ]

seat_other : (k j : ℕ) (xs : List ℕ) → k ≢ j → is_in j (with_seat k xs) ≡ is_in j xs
seat_other k j [] d = rw (ne_eqb k j d)
seat_other k j (x ∷ xs) d =
    elim (cases_order x k) [
      | inl same ↦ rw (le-ltb x k (omega arith), eq-eqb x k same)
      | inr (inl less) ↦ rw (lt-ltb x k less) (ap (λ b. (x == j) || b) (seat_other k j xs d))
      | inr (inr more) ↦ rw (le-ltb x k (omega arith), ne_eqb x k (omega arith), ne_eqb k j d)
    ]

seat_off : (k : ℕ) (xs : List ℕ) → is_in k (off k xs) ≡ false
seat_off k [] = refl
seat_off k (x ∷ xs) =
    elim (eqb_tells x k) [
      | inl at ↦ rw at.0 (seat_off k xs)
      | inr far ↦ rw (far.0, far.0) (seat_off k xs)
    ]

seat_kept : (k j : ℕ) (xs : List ℕ) → k ≢ j → is_in j (off k xs) ≡ is_in j xs
seat_kept k j [] d = refl
seat_kept k j (x ∷ xs) d =
    elim (cases_eq x k) [
      | inl same ↦ rw (eq-eqb x k same, ne_eqb x j (omega arith)) (seat_kept k j xs d)
      | inr other ↦ rw (ne_eqb x k other) (ap (λ b. (x == j) || b) (seat_kept k j xs d))
    ]

seat_here : (b : Bool) (k : ℕ) (xs : List ℕ) → is_in k (if b then with_seat k xs else off k xs) ≡ b
seat_here true k xs = seat_in k xs
seat_here false k xs = seat_off k xs

seat_away : (b : Bool) (k j : ℕ) (xs : List ℕ) → k ≢ j → is_in j (if b then with_seat k xs else off k xs) ≡ is_in j xs
seat_away true k j xs d = seat_other k j xs d
seat_away false k j xs d = seat_kept k j xs d

seats-at : (seats : List (ℕ × Seat)) (id : ℕ) → is_in id (seats_on seats) ≡ seated_in (entry_at seats id)
seats-at [] id = refl
seats-at ((k, seat) ∷ seats) id =
    elim (cases_eq k id) [
      | inl same ↦ ap (λ j. is_in j (seats_on ((k, seat) ∷ seats))) (sym same) ∙ seat_here seat.seated k (seats_on seats) ∙ ap seated_in (sym (entry-first (k, seat) seats id same))
      | inr other ↦ seat_away seat.seated k id (seats_on seats) other ∙ seats-at seats id ∙ ap seated_in (sym (entry-next (k, seat) seats id other))
    ]

-- whether a reader sees room reserved for a number
pub shown_seat : {X : Type 0} (w : World X) (id : ℕ) → is_in id (state_of w).seats ≡ is_seated w.pins id
shown_seat w id = seats-at w.pins.seats id

module _ {X : Type 0} (w w' : World X) where
  -- all but the calls is unchanged
  pub record SameButCalls : Type 0 where
    pub slots : w'.slots ≡ w.slots
    pub lives : w'.pins.slots ≡ w.pins.slots
    pub count : w'.pins.count ≡ w.pins.count
    pub seats : seats_on w'.pins.seats ≡ seats_on w.pins.seats
    pub root : w'.root ≡ w.root
    pub entries : w'.entries ≡ w.entries
    pub charge : w'.charge ≡ w.charge

  -- all calls but one number's are unchanged
  pub record OtherCallsStay (id : ℕ) : Type 0 where
    pub records : (o : ℕ) → o ≢ id → record_of w' o ≡ record_of w o
    pub pins : (o : ℕ) → o ≢ id → pin_of w'.pins o ≡ pin_of w.pins o

  state_but_calls : SameButCalls → (fs : List (ℕ × CallState X)) → (state_of w').calls ≡ fs → state_of w' ≡ record (state_of w) { calls = fs }
  state_but_calls h fs is =
      let nodes : (state_of w').nodes ≡ (state_of w).nodes = ap (λ lives. nodes_from lives 0 w'.slots) h.lives ∙ ap (nodes_from w.pins.slots 0) h.slots in
      let root = h.root in
      let count = h.count in
      let seats = h.seats in
      let entries = h.entries in
      let charge = h.charge in
      state_is (state_of w') (state_of w).nodes w.root w.pins.count fs (seats_on w.pins.seats) w.entries w.charge nodes root count is seats entries charge

  -- the calls are these, if they agree at one number and the others are unchanged
  pub flights_by : (id : ℕ) (fs : List (ℕ × CallState X)) → IsMap fs → lookup fs id ≡ flight_in (record_of w' id) (pin_of w'.pins id) → ((o : ℕ) → o ≢ id → lookup fs o ≡ lookup (state_of w).calls o)
      → OtherCallsStay id → (state_of w').calls ≡ fs
  flights_by id fs map here away others =
      same_from_lookups 0 (2 ^ 64) 0 (2 ^ 64) (state_of w').calls fs (flights_map w') map (λ k.
      elim (cases_lt k (2 ^ 64)) [
        | inr wide ↦ lookup-above 0 (2 ^ 64) (state_of w').calls k (flights_map w') wide ∙ sym (lookup-above 0 (2 ^ 64) fs k map wide)
        | inl small ↦
            elim (cases_eq k id) [
              | inl same ↦ shown_flight w' k small ∙ ap (λ j. flight_in (record_of w' j) (pin_of w'.pins j)) same ∙ sym here ∙ ap (lookup fs) (sym same)
              | inr other ↦
                  shown_flight w' k small ∙ ap (λ r. flight_in r (pin_of w'.pins k)) (others.records k other) ∙ ap (flight_in (record_of w k)) (others.pins k other)
                  ∙ sym (shown_flight w k small) ∙ sym (away k other)
            ]
      ])

  -- ONE NUMBER'S CALL changed, and all else stayed
  pub call_put : (id pin : ℕ) (r : Record X) → id < 2 ^ 64 → record_of w' id ≡ Some r → pin_of w'.pins id ≡ Some pin → OtherCallsStay id → SameButCalls
      → state_of w' ≡ with_call (state_of w) id (flight pin r)
  call_put id pin r small here pinned others rest =
      let old : List (ℕ × CallState X) = (state_of w).calls in
      state_but_calls rest (put old id (flight pin r))
      (flights_by id (put old id (flight pin r)) (Rises-put 0 (2 ^ 64) old id (flight pin r) (flights_map w) (omega arith) small)
      (lookup-put_same old id (flight pin r) ∙ sym (ap (λ x. flight_in x (pin_of w'.pins id)) here ∙ ap (flight_in (Some r)) pinned))
      (λ o d. lookup-put_other old id (flight pin r) o d) others)

  -- and one that is no longer in flight
  pub call_gone : (id : ℕ) → record_of w' id ≡ None → OtherCallsStay id → SameButCalls → state_of w' ≡ record (state_of w) { calls = without (state_of w).calls id }
  call_gone id gone others rest =
      let old : List (ℕ × CallState X) = (state_of w).calls in
      state_but_calls rest (without old id)
      (flights_by id (without old id) (Rises-without 0 (2 ^ 64) old id (flights_map w))
      (lookup-without_same 0 (2 ^ 64) old id (flights_map w) ∙ sym (ap (λ x. flight_in x (pin_of w'.pins id)) gone))
      (λ o d. lookup-without_other old id o d) others)
