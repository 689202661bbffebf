-- What an event of a call does to the inside as a whole: a Start, an event after which the call goes on, and its last.
use Rattle.std.proofs.Common.{◌≡◌, ℕ, ◌<◌, ◌^◌, Bool, true, List, [], Option, Some, None, IsSome, inl, refl, sym, subst, ap, ◌∙◌, arith}
use Rattle.spec_map.specs.Map.{lookup, without}
use Rattle.spec_olc.specs.Calls.{key_of, outline_of}
use Rattle.spec_olc.specs.Content.{IsContent}
use Rattle.spec_olc.specs.Deciding.{ContentAfter}
use Rattle.spec_olc.specs.Kinds.{DoesAs, MayEnd, report_of}
use Rattle.spec_olc.specs.State.{State, with_call}
use Rattle.spec_olc.specs.declared.types.Env.{Env}
use Rattle.spec_olc.specs.declared.types.Kind.TheVariants as kind
use Rattle.spec_olc.specs.declared.types.Op.{Op}
use Rattle.spec_olc.specs.declared.types.Outcome.{Outcome}
use Rattle.spec_olc.specs.declared.types.Report.{Report}
use Rattle.olc_words.specs.Epoch.{PinsView, ChangesSeat, pin_of, is_seated}
use Rattle.olc_state.specs.declared.stage.Record.{Record}
use Rattle.olc_state.specs.declared.stage.Stage.{Stage}
use Rattle.olc_state.specs.inner.Tables.{Guarantees}
use Rattle.olc_state.specs.inner.Facts.{Facts, Holding, IsSoundWorld}
use Rattle.olc_state.specs.inner.Places.{ChangesPlace}
use Rattle.olc_state.specs.inner.Scans.{BeginsAt}
use Rattle.olc_state.specs.inner.Shown.{flight, flight_in, held_at, state_of}
use Rattle.olc_state.specs.inner.Turns.{IsAdvance, IsBegun, IsCourse, IsRead, IsTurn}
use Rattle.olc_state.specs.inner.World.{World, NodeMap, table_on, table_of, record_in, record_of}
use Rattle.olc_state.proofs.Changes.{same_content}
use Rattle.olc_state.proofs.Holding.{holds_nothing}
use Rattle.olc_state.proofs.Options.{none_some, some_same}
use Rattle.olc_state.proofs.Replies.{key_is}
use Rattle.olc_state.proofs.States.{shows, shown_flight, call_put, call_gone}
use Rattle.olc_machine.proofs.Ends.{begun_at, begun_facts, begun_holds, end_holds, end_may, flight_begun}
use Rattle.olc_machine.proofs.Changing.{HeldBy, changed_sound, held_record, none_held, others_stay, rest_stays}

module _ {M : Type 0} where
  -- the call in flight of a number with a record and a pin
  pub flown : (w : World M) (id pin : ℕ) (r : Record M) → id < 2 ^ 64 → record_of w id ≡ Some r → pin_of w.pins id ≡ Some pin
      → lookup (state_of w).calls id ≡ Some (flight pin r)
  flown w id pin r small found pinned =
      shown_flight w id small ∙ (ap (λ x. flight_in x (pin_of w.pins id)) found ∙ ap (λ x. flight_in (Some r) x) pinned)

  -- while nodes stay unchanged, all calls keep what they rely on
  nothing_leaves : (t u : NodeMap M) → ((s : ℕ) → u s ≡ t s) → (Mine : ℕ → Type 0) (p : ℕ) → Guarantees t u Mine p
  nothing_leaves t u same Mine p s a here safe = record {
    node = a;
    here = same s ∙ here;
    kept = record { prefix = refl; word = omega arith; same = λ free word. refl; safe = safe };
    changed = inl refl;
  }

module _ {M : Type 0} (Granted : Type 0) (same : M → M → Bool) (w : World M) (pins : PinsView) (calls : List (ℕ × Option (Record M))) (id : ℕ)
    (sound : IsSoundWorld Granted same w) (small : id < 2 ^ 64) where
  -- A CALL BEGINS.
  pub begun_sound : (op : Op M) (at : Stage) → BeginsAt (outline_of op) at → key_of op < 2 ^ 64 → record_of w id ≡ None
      → ChangesSeat w.pins pins id (is_seated w.pins id) (Some w.pins.count)
      → ChangesPlace w.calls calls id (Some (Some (begun_at op at)))
      → IsSoundWorld Granted same (record w { pins = pins; calls = calls })
  begun_sound op at first least free enters places =
      let facts : Facts Granted same (table_of w) w.root w.pins.count (begun_at op at) = record {
        small = subst (λ k. k < 2 ^ 64) (key_is op (outline_of op) refl) least;
        at = begun_facts Granted same (table_of w) w.root w.pins.count op at least first;
      } in
      changed_sound w pins calls id (is_seated w.pins id) (Some w.pins.count) (Some (Some (begun_at op at))) enters places Granted same sound
      (λ q p e f. subst (λ (x : Record M). Facts Granted same (table_of w) w.root p x) (some_same (begun_at op at) q e)
      (subst (λ n. Facts Granted same (table_of w) w.root n (begun_at op at)) (some_same w.pins.count p f) facts))
      (λ q e. refl)
      (λ p f. refl)
      (λ e. refl)
      (λ p f. let e : w.pins.count ≡ p = some_same w.pins.count p f in omega arith)
      (none_held (Some (begun_at op at)) (record_of w id) (holds_nothing at (begun_holds op at first)) (λ s h. let held = held_record (record_of w id) s h in absurd (none_some held.0 (sym free ∙ held.1))))
      (λ q e. small)

  pub begun_turn : (op : Op M) (at : Stage) → BeginsAt (outline_of op) at → key_of op < 2 ^ 64 → record_of w id ≡ None
      → ChangesSeat w.pins pins id (is_seated w.pins id) (Some w.pins.count)
      → ChangesPlace w.calls calls id (Some (Some (begun_at op at)))
      → IsBegun Granted same w (record w { pins = pins; calls = calls }) id op (report_of kind.Start None 0 true)
  begun_turn op at first least free enters places =
      let now : World M = record w { pins = pins; calls = calls } in
      let pin = w.pins.count in
      let place : Option (Option (Record M)) = Some (Some (begun_at op at)) in
      record {
        before = sound;
        after = begun_sound op at first least free enters places;
        others = λ o ne. ap record_in (places.others o ne);
        nodes = λ s. ap (λ l. table_on w.slots l s) enters.slots;
        root = refl;
        record_is = begun_at op at;
        here = ap record_in places.here;
        stage = first;
        outline = refl;
        start = record {
          is = refl;
          free = shown_flight w id small ∙ ap (λ x. flight_in x (pin_of w.pins id)) free;
          after = call_put w now id pin (begun_at op at) small (ap record_in places.here) enters.pinned
              (others_stay w pins calls id (is_seated w.pins id) (Some pin) place enters places)
              (rest_stays w pins calls id (is_seated w.pins id) (Some pin) place enters places refl)
              ∙ ap (λ f. with_call (state_of w) id f) (flight_begun op at pin first);
        };
      }

  -- AN EVENT of a call in flight
  module _ (r : Record M) (pin : ℕ) (env : Env M) (report : Report) (out : Outcome M)
      (found : record_of w id ≡ Some r) (pinned : pin_of w.pins id ≡ Some pin) where
    -- if its stage holds no node
    nothing_held : held_at r.stage ≡ [] → (s : ℕ) → HeldBy (record_of w id) s → ⊥
    nothing_held held s h =
        let there = held_record (record_of w id) s h in
        let is : there.0 ≡ r = some_same there.0 r (sym there.1 ∙ found) in
        holds_nothing r.stage held s (subst (λ (q : Record M). Holding q.stage s) is there.2)

    -- after which the call goes on
    pub on_turn : (next : Record M) → held_at r.stage ≡ []
        → ChangesSeat w.pins pins id (is_seated w.pins id) (Some pin)
        → ChangesPlace w.calls calls id (Some (Some next))
        → IsRead Granted same (table_of w) w.root pin r env next report out
        → IsTurn Granted same w (record w { pins = pins; calls = calls }) id env report out
    on_turn next held stays places read =
        let now : World M = record w { pins = pins; calls = calls } in
        let place : Option (Option (Record M)) = Some (Some next) in
        let nodes : (s : ℕ) → table_of now s ≡ table_of w s = λ s. ap (λ l. table_on w.slots l s) stays.slots in
        let after : state_of now ≡ with_call (state_of w) id (flight pin next) =
        call_put w now id pin next small (ap record_in places.here) stays.pinned
        (others_stay w pins calls id (is_seated w.pins id) (Some pin) place stays places)
        (rest_stays w pins calls id (is_seated w.pins id) (Some pin) place stays places refl)
        in
        record {
          before = sound;
          after = changed_sound w pins calls id (is_seated w.pins id) (Some pin) place stays places Granted same sound
              (λ q p e f. subst (λ (x : Record M). Facts Granted same (table_of w) w.root p x) (some_same next q e)
              (subst (λ n. Facts Granted same (table_of w) w.root n next) (some_same pin p f) read.facts))
              (λ q e. refl)
              (λ p f. refl)
              (λ e. refl)
              (λ p f. sound.before id p (pinned ∙ f))
              (none_held (Some next) (record_of w id) (holds_nothing next.stage read.held) (nothing_held held))
              (λ q e. small);
          call = r;
          pin = pin;
          found = found;
          pinned = pinned;
          others = λ o ne. ap record_in (places.others o ne);
          root = refl;
          leaves = λ p le. nothing_leaves (table_of w) (table_of now) nodes (Holding r.stage) p;
          course = λ q e. subst (λ (x : Record M). IsCourse (table_of w) (table_of now) w.root r env x report out) (some_same next q (sym (ap record_in places.here) ∙ e))
              (subst (λ l. IsCourse (table_of w) (table_on w.slots l) w.root r env next report out) (sym stays.slots) read.course);
          ends = λ e. absurd (none_some next (sym e ∙ ap record_in places.here));
          step = record {
            call = flight pin r;
            in_flight = flown w id pin r small found pinned;
            event = subst (λ (s : State M). DoesAs Granted same (state_of w) s id (flight pin r) env report out report.kind) (sym after)
                (read.does (state_of w) id (shows w));
          };
          carries = λ m c. record {
            call = flight pin r;
            in_flight = flown w id pin r small found pinned;
            content = m;
            content_is = subst (λ (s : State M). IsContent s m) (sym after) (same_content (state_of w) (with_call (state_of w) id (flight pin next)) refl refl m c);
            carries = read.carries (state_of w) (shows w) m c;
          };
        }

    -- and its last
    pub gone_turn : (place : Option (Option (Record M)))
        → ChangesSeat w.pins pins id (is_seated w.pins id) None
        → ChangesPlace w.calls calls id place → record_in place ≡ None
        → (is_seated w.pins id ≡ true → IsSome place)
        → IsAdvance Granted same (table_of w) w.root pin r env None report out
        → IsTurn Granted same w (record w { pins = pins; calls = calls }) id env report out
    gone_turn place leaves places gone room advance =
        let now : World M = record w { pins = pins; calls = calls } in
        let nodes : (s : ℕ) → table_of now s ≡ table_of w s = λ s. ap (λ l. table_on w.slots l s) leaves.slots in
        let none : record_of now id ≡ None = ap record_in places.here ∙ gone in
        let after : state_of now ≡ record (state_of w) { calls = without (state_of w).calls id } =
        call_gone w now id none
        (others_stay w pins calls id (is_seated w.pins id) None place leaves places)
        (rest_stays w pins calls id (is_seated w.pins id) None place leaves places refl)
        in
        let may : MayEnd (flight pin r) = end_may Granted same (table_of w) w.root pin r.task r.stage advance.0 (sound.facts id pin r found pinned).at in
        let holds = end_holds r.stage advance.0 in
        record {
          before = sound;
          after = changed_sound w pins calls id (is_seated w.pins id) None place leaves places Granted same sound
              (λ q p e f. absurd (none_some p f))
              (λ q e. absurd (none_some q (sym gone ∙ e)))
              (λ p f. absurd (none_some p f))
              room
              (λ p f. absurd (none_some p f))
              (none_held (record_in place) (record_of w id) (λ s h. let there = held_record (record_in place) s h in none_some there.0 (sym gone ∙ there.1))
              (nothing_held holds.0))
              (λ q e. small);
          call = r;
          pin = pin;
          found = found;
          pinned = pinned;
          others = λ o ne. ap record_in (places.others o ne);
          root = refl;
          leaves = λ p le. nothing_leaves (table_of w) (table_of now) nodes (Holding r.stage) p;
          course = λ q e. absurd (none_some q (sym none ∙ e));
          ends = λ e. (advance.2, ap (λ (x : Report). x.slot) advance.1);
          step = record {
            call = flight pin r;
            in_flight = flown w id pin r small found pinned;
            event = subst (λ (x : Report). DoesAs Granted same (state_of w) (state_of now) id (flight pin r) env x out x.kind) (sym advance.1)
                (record { reports = (refl, advance.2); may = may; held = holds.0; made = holds.1; after = after });
          };
          carries = λ m c. record {
            call = flight pin r;
            in_flight = flown w id pin r small found pinned;
            content = m;
            content_is = subst (λ (s : State M). IsContent s m) (sym after)
                (same_content (state_of w) (record (state_of w) { calls = without (state_of w).calls id }) refl refl m c);
            carries = subst (λ (o : Outcome M). ContentAfter same m m (flight pin r) o) (sym advance.2) refl;
          };
        }
