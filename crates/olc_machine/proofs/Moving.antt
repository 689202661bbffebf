-- AN EVENT that changes nodes: the inside stays sound, and the event is a turn of its call.
use Rattle.std.proofs.Common.{◌≡◌, ◌≢◌, ℕ, ◌<◌, ◌^◌, Bool, List, length, Option, Some, None, IsSome, inl, inr, refl, sym, subst, ap, ◌∙◌, arith}
use Rattle.std.proofs.lemmas.Bool.Decides.{eqb_tells}
use Rattle.spec_map.specs.Map.{Pairs, lookup, put, IsMap}
use Rattle.spec_map.proofs.MapLaws.{Rises-put, lookup-put_same, lookup-put_other, same_from_lookups}
use Rattle.node_table.specs.Charge.{Covers}
use Rattle.spec_olc.specs.Content.{IsContent}
use Rattle.spec_olc.specs.State.{State, CallState}
use Rattle.spec_olc.specs.declared.types.Env.{Env}
use Rattle.spec_olc.specs.declared.types.Outcome.{Outcome}
use Rattle.spec_olc.specs.declared.types.Report.{Report}
use Rattle.olc_words.specs.Epoch.{entry_at, pin_of}
use Rattle.spec_olc.specs.Lock.{IsFree, IsLocked}
use Rattle.olc_state.specs.declared.stage.Record.{Record}
use Rattle.olc_state.specs.inner.Facts.{Facts, Holding, IsSoundWorld, AllAdmitted, stored_sizes}
use Rattle.olc_state.specs.inner.Moves.{StoreCounts, IsAfter, IsMove, NewlyHeld}
use Rattle.olc_state.specs.inner.Places.{ChangesPlace}
use Rattle.olc_state.specs.inner.Shown.{flight, flight_in, seats_on, state_of}
use Rattle.olc_state.specs.inner.Stocks.{SlotsFitU64}
use Rattle.olc_state.specs.inner.Tables.{IsPlaced, NeedsHolder}
use Rattle.olc_state.specs.inner.Turns.{IsCourse, IsTurn, ShowsNodes}
use Rattle.olc_state.specs.inner.World.{World, PlacedNode, NodeMap, is_linked, is_private, record_in, record_of, table_of}
use Rattle.olc_state.proofs.Holding.{holds_at, made_at_slot}
use Rattle.olc_state.proofs.Narrow.{nodes_narrow}
use Rattle.olc_state.proofs.Options.{none_some, some_same}
use Rattle.olc_state.proofs.Rely.{facts_last}
use Rattle.olc_state.proofs.States.{OtherCallsStay, flights_by, flights_map, shown_node, shows, state_is}
use Rattle.olc_machine.proofs.Turning.{flown}

private_linked : is_private ≡ is_linked → ⊥
private_linked e = cc

locked_free : (word : ℕ) → IsLocked word → IsFree word → ⊥
locked_free word locked free = absurd (omega (arith, locked, free))

option_is : {X : Type 0} (x y : Option X) → ((v : X) → x ≡ Some v → y ≡ Some v) → ((v : X) → y ≡ Some v → x ≡ Some v) → x ≡ y
option_is None None f g = refl
option_is None (Some v) f g = absurd (none_some v (g v refl))
option_is (Some v) y f g = sym (f v refl)

module _ {M : Type 0} where
  -- a state has one content
  pub one_content : (s : State M) (m n : Pairs M) → IsContent s m → IsContent s n → m ≡ n
  one_content s m n c d =
      same_from_lookups 0 (2 ^ 64) 0 (2 ^ 64) m n c.map d.map (λ key.
      option_is (lookup m key) (lookup n key)
      (λ v e. (d.pairs key v).1 ((c.pairs key v).0 e))
      (λ v e. (c.pairs key v).1 ((d.pairs key v).0 e)))

  -- what needs a holder isn't newly held
  pub not_newly : (t : NodeMap M) (s : ℕ) → NeedsHolder t s → NewlyHeld t s → ⊥
  not_newly t s need new =
      elim new [
        | inl none ↦ none_some need.node (sym none ∙ need.here)
        | inr free ↦
            let same : free.node ≡ need.node = some_same free.node need.node (sym free.linked.here ∙ need.here) in
            elim need.why [
              | inl private ↦ private_linked (sym private ∙ (ap (λ (a : PlacedNode M). a.lifetime) (sym same) ∙ free.linked.lifetime))
              | inr locked ↦ locked_free need.node.word locked.0 (subst (λ (a : PlacedNode M). IsFree a.word) same free.free)
            ]
      ]

-- the counts of the inside: of retirements, of what is charged, and of pairs
abbrev pub books_at : {M : Type 0} → World M → StoreCounts
books_at w = record { count = w.pins.count; charge = w.charge; entries = w.entries }

-- the inside after an event, apart from its call
pub record IsMoved {M : Type 0} (w w' : World M) (id : ℕ) (next : Record M) : Type 0 where
  pub places : ChangesPlace w.calls w'.calls id (Some (Some next))
  pub seats : w'.pins.seats ≡ w.pins.seats
  pub root : w'.root ≡ w.root
  pub placed : IsPlaced (table_of w') w'.root
  pub admitted : AllAdmitted (table_of w') w'.pins.slots
  pub narrow : SlotsFitU64 (table_of w')
  pub covered : Covers w'.charge (stored_sizes w'.slots)

-- what a call holds needs a holder
holding_needs : {M : Type 0} (t : NodeMap M) (Granted : Type 0) (same : M → M → Bool) (root pin : ℕ) (r : Record M) (s : ℕ) → Facts Granted same t root pin r → Holding r.stage s → NeedsHolder t s
holding_needs t Granted same root pin r s f h =
    elim h [
      | inl held ↦ let is = holds_at t Granted same root pin r s f held in record { node = is.node; here = is.here; why = inr (is.locked, is.live) }
      | inr made ↦ let is = made_at_slot t Granted same root pin r s f made in record { node = is.node; here = is.here; why = inl is.lifetime }
    ]

module _ {M : Type 0} (Granted : Type 0) (same : M → M → Bool) (w w' : World M) (id pin : ℕ) (small : id < 2 ^ 64) (r next : Record M)
    (env : Env M) (report : Report) (out : Outcome M) (sound : IsSoundWorld Granted same w) (found : record_of w id ≡ Some r) (pinned : pin_of w.pins id ≡ Some pin)
    (moved : IsMoved w w' id next)
    (move : IsMove Granted same (table_of w) (table_of w') w.root pin (books_at w) (books_at w') r env next report out)
    (there : (m : Pairs M) × IsContent (state_of w) m) where
  same_pin : (o : ℕ) → pin_of w'.pins o ≡ pin_of w.pins o
  same_pin o = let seats = moved.seats in rw seats refl

  now_found : record_of w' id ≡ Some next
  now_found = ap record_in moved.places.here

  other_call : (o : ℕ) → o ≢ id → record_of w' o ≡ record_of w o
  other_call o off = ap record_in (moved.places.others o off)

  facts_now : (o p : ℕ) (q : Record M) → record_of w' o ≡ Some q → pin_of w'.pins o ≡ Some p → Facts Granted same (table_of w') w'.root p q
  facts_now o p q e f =
      subst (λ z. Facts Granted same (table_of w') z p q) (sym moved.root)
      (elim (eqb_tells o id) [
        | inl at ↦
            let is : next ≡ q = some_same next q (sym now_found ∙ subst (λ z. record_of w' z ≡ Some q) at.1 e) in
            let is_pin : pin ≡ p = some_same pin p (sym pinned ∙ (sym (same_pin id) ∙ subst (λ z. pin_of w'.pins z ≡ Some p) at.1 f)) in
            subst (λ (x : Record M). Facts Granted same (table_of w') w.root p x) is (subst (λ n. Facts Granted same (table_of w') w.root n next) is_pin move.facts)
        | inr off ↦
            let old : record_of w o ≡ Some q = sym (other_call o off.1) ∙ e in
            let old_pin : pin_of w.pins o ≡ Some p = sym (same_pin o) ∙ f in
            facts_last (table_of w) (table_of w') (Holding r.stage) p (move.others p (sound.before o p old_pin)) Granted same move.privates w.root q (λ s theirs mine. sound.apart o id s q r old found off.1 theirs mine) (sound.facts o p q old old_pin)
      ])

  -- no other call holds what this call holds now
  next_apart : (o s : ℕ) (q : Record M) → o ≢ id → record_of w' o ≡ Some q → Holding next.stage s → Holding q.stage s → ⊥
  next_apart o s q off e mine theirs =
      let old : record_of w o ≡ Some q = sym (other_call o off) ∙ e in
      elim (move.holds s mine) [
        | inl before ↦ sound.apart o id s q r old found off theirs before
        | inr new ↦
            let p = pin_there (pin_of w.pins o) (sound.pinned o q old) in
            not_newly (table_of w) s (holding_needs (table_of w) Granted same w.root p.0 q s (sound.facts o p.0 q old p.1) theirs) new
      ]
    where
      pin_there : (x : Option ℕ) → IsSome x → (n : ℕ) × (x ≡ Some n)
      pin_there None h = absurd (cc)
      pin_there (Some n) h = (n, refl)

  apart_now : (i j s : ℕ) (q u : Record M) → record_of w' i ≡ Some q → record_of w' j ≡ Some u → i ≢ j → Holding q.stage s → Holding u.stage s → ⊥
  apart_now i j s q u e f ne mine yours =
      elim (eqb_tells i id) [
        | inl at ↦
            let is : q ≡ next = some_same q next (sym e ∙ subst (λ z. record_of w' z ≡ Some next) (sym at.1) now_found) in
            next_apart j s u (λ x. ne (at.1 ∙ sym x)) f (subst (λ (x : Record M). Holding x.stage s) is mine) yours
        | inr off ↦
            elim (eqb_tells j id) [
              | inl at ↦
                  let is : u ≡ next = some_same u next (sym f ∙ subst (λ z. record_of w' z ≡ Some next) (sym at.1) now_found) in
                  next_apart i s q off.1 e (subst (λ (x : Record M). Holding x.stage s) is yours) mine
              | inr far ↦ sound.apart i j s q u (sym (other_call i off.1) ∙ e) (sym (other_call j far.1) ∙ f) ne mine yours
            ]
      ]

  held_now : (s : ℕ) → NeedsHolder (table_of w') s → (o : ℕ) × (q : Record M) × (record_of w' o ≡ Some q) × Holding q.stage s
  held_now s needed =
      elim (move.holders s needed) [
        | inl mine ↦ (id, next, now_found, mine)
        | inr before ↦
            let h = sound.held s before.0 in
            elim (eqb_tells h.0 id) [
              | inl at ↦
                  let is : h.1 ≡ r = some_same h.1 r (sym h.2 ∙ subst (λ z. record_of w z ≡ Some r) (sym at.1) found) in
                  absurd (before.1 (subst (λ (x : Record M). Holding x.stage s) is h.3))
              | inr off ↦ (h.0, h.1, other_call h.0 off.1 ∙ h.2, h.3)
            ]
      ]

  shows_now : ShowsNodes (table_of w') w.root (state_of w')
  shows_now = record { nodes = shown_node w'; root_is = moved.root }

  counted_now : (m : Pairs M) → IsContent (state_of w') m → w'.entries ≡ length m
  counted_now m c =
      let become = move.carries (state_of w) (state_of w') (shows w) shows_now there.0 there.1 in
      become.counted (sound.counted there.0 there.1) ∙ ap length (one_content (state_of w') become.content m become.content_is c)

  pub moved_sound : IsSoundWorld Granted same w'
  moved_sound = record {
    placed = moved.placed;
    facts = facts_now;
    pinned = λ o q e.
        elim (eqb_tells o id) [
          | inl at ↦ subst (λ (x : Option ℕ). IsSome x) (sym (same_pin o ∙ subst (λ z. pin_of w.pins z ≡ Some pin) (sym at.1) pinned)) refl
          | inr off ↦ subst (λ (x : Option ℕ). IsSome x) (sym (same_pin o)) (sound.pinned o q (sym (other_call o off.1) ∙ e))
        ];
    called = λ o p f.
        elim (eqb_tells o id) [
          | inl at ↦ subst (λ (x : Option (Record M)). IsSome x) (sym (subst (λ z. record_of w' z ≡ Some next) (sym at.1) now_found)) refl
          | inr off ↦ subst (λ (x : Option (Record M)). IsSome x) (sym (other_call o off.1)) (sound.called o p (sym (same_pin o) ∙ f))
        ];
    numbered = λ o q e.
        elim (eqb_tells o id) [
          | inl at ↦ subst (λ z. z < 2 ^ 64) (sym at.1) small
          | inr off ↦ sound.numbered o q (sym (other_call o off.1) ∙ e)
        ];
    seated = λ o f.
        elim (eqb_tells o id) [
          | inl at ↦ subst (λ z. IsSome (entry_at w'.calls z)) (sym at.1) (subst (λ (x : Option (Option (Record M))). IsSome x) (sym moved.places.here) refl)
          | inr off ↦
              let old = let seats = moved.seats in rw seats at f in
              subst (λ (x : Option (Option (Record M))). IsSome x) (sym (moved.places.others o off.1)) (sound.seated o old)
        ];
    before = λ o p f. let old = sound.before o p (sym (same_pin o) ∙ f) in let more = move.counts in omega (arith, old, more);
    apart = apart_now;
    held = held_now;
    admitted = moved.admitted;
    narrow = λ s a e. moved.narrow s (λ none. none_some a (sym none ∙ e));
    charged = moved.covered;
    counted = counted_now;
  }

  others_stay : OtherCallsStay w w' id
  others_stay = record { records = other_call; pins = λ o off. same_pin o }

  flights_now : (state_of w').calls ≡ put (state_of w).calls id (flight pin next)
  flights_now =
      let old : List (ℕ × CallState M) = (state_of w).calls in
      flights_by w w' id (put old id (flight pin next)) (Rises-put 0 (2 ^ 64) old id (flight pin next) (flights_map w) (omega arith) small)
      (lookup-put_same old id (flight pin next) ∙ sym (ap (λ x. flight_in x (pin_of w'.pins id)) now_found ∙ ap (λ x. flight_in (Some next) x) (same_pin id ∙ pinned)))
      (λ o off. lookup-put_other old id (flight pin next) o off) others_stay

  after : IsAfter (state_of w) (state_of w') id (flight pin next) (books_at w) (books_at w')
  after = record {
    was = refl;
    is = state_is (state_of w') (state_of w').nodes w.root w'.pins.count (put (state_of w).calls id (flight pin next)) (seats_on w.pins.seats) w'.entries w'.charge
        refl moved.root refl flights_now (ap seats_on moved.seats) refl refl;
  }

  pub moved_turn : IsTurn Granted same w w' id env report out
  moved_turn =
      let maps : IsMap (state_of w).nodes = nodes_narrow w sound.narrow in
      let maps' : IsMap (state_of w').nodes = nodes_narrow w' moved_sound.narrow in
      record {
        before = sound;
        after = moved_sound;
        call = r;
        pin = pin;
        found = found;
        pinned = pinned;
        others = other_call;
        root = moved.root;
        leaves = move.others;
        course = λ q e. subst (λ (x : Record M). IsCourse (table_of w) (table_of w') w.root r env x report out) (some_same next q (sym now_found ∙ e)) move.course;
        ends = λ e. absurd (none_some next (sym e ∙ now_found));
        step = record {
          call = flight pin r;
          in_flight = flown w id pin r small found pinned;
          event = move.does (state_of w) (state_of w') id (shows w) shows_now maps maps' after;
        };
        carries = λ m c.
            let become = move.carries (state_of w) (state_of w') (shows w) shows_now m c in
            record {
              call = flight pin r;
              in_flight = flown w id pin r small found pinned;
              content = become.content;
              content_is = become.content_is;
              carries = become.carries;
            };
      }
