-- A RECLAIM: the slot of a retired node is reclaimed. No call in flight may step on
-- it, and all that the calls know is kept.
use Rattle.std.proofs.Common.{◌≡◌, ◌≢◌, ℕ, ◌+◌, ◌<◌, ◌≤◌, ◌^◌, Bool, List, Option, Some, None, IsSome, IfSome, IfNone, true, inl, inr, refl, sym, subst, ap, ◌∙◌, arith, slice_index_or}
use Rattle.std.proofs.lemmas.Bool.{cases_lt}
use Rattle.std.proofs.lemmas.Bool.Decides.{eqb_tells}
use Rattle.std.specs.BTreeMap.{BTreeMap}
use Rattle.node_base.specs.Form.{stated_size}
use Rattle.node_base.specs.declared.base_node.NodeType.{NodeType}
use Rattle.spec_map.specs.Map.{Pairs, without}
use Rattle.spec_map.proofs.JoinLaws.{lookup-above}
use Rattle.node_table.specs.Charge.{Charge, Covers, add_charge}
use Rattle.spec_olc.specs.Content.{IsContent}
use Rattle.spec_olc.specs.Kinds.{IsReclaim, MayReclaim, report_of}
use Rattle.spec_olc.specs.Meaning.{meant}
use Rattle.spec_olc.specs.State.{CallState, State}
use Rattle.spec_olc.specs.declared.types.Kind.TheVariants as kind
use Rattle.spec_olc.specs.declared.types.Report.{Report}
use Rattle.olc_words.specs.Epoch.{StartedAfter, entry_at, pin_of}
use Rattle.olc_words.specs.Epoch as epoch
use Rattle.olc_words.specs.declared.epoch.Life.{Life}
use Rattle.olc_words.specs.declared.epoch.Life.TheVariants.{InUse, Retired}
use Rattle.olc_state.specs.declared.stage.NodeLife.{NodeLife}
use Rattle.olc_state.specs.declared.stage.NodeLife.TheVariants as place
use Rattle.olc_state.specs.declared.stage.Record.{Record}
use Rattle.olc_state.specs.declared.stage.Stored.{Stored}
use Rattle.olc_state.specs.declared.stock.Stock.{Stock}
use Rattle.olc_state.specs.inner.Facts.{Facts, IsAdmitted, IsSoundWorld, AllAdmitted, stored_sizes}
use Rattle.olc_state.specs.inner.Meant.{meant_slots, meant_table, meant_world}
use Rattle.olc_state.specs.inner.Shown.{flight, flight_in, lifetime, seats_on, shown, state_of}
use Rattle.olc_state.specs.inner.Slots.{SetsNode}
use Rattle.olc_state.specs.inner.Tables.{Guarantees, IsLinked, IsPlaced, IsSafe, Keeps, NeedsHolder, PrivateStays}
use Rattle.olc_state.specs.inner.Turns.{IsFreed, ShowsNodes}
use Rattle.olc_state.specs.inner.World.{World, PlacedNode, NodeLifetime, NodeMap, record_of, is_linked, is_private, is_detached, is_retired, placed_node, record_in, stamp_in, lifetime_of, table_of}
use Rattle.olc_state.proofs.Changes.{node_gone}
use Rattle.olc_state.proofs.Contents.{kept_there, there_kept}
use Rattle.olc_state.proofs.Options.{none_some, some_same}
use Rattle.olc_state.proofs.Reaching.{keeps_stands, one, shown_at, stands_keeps}
use Rattle.olc_state.proofs.Rely.{facts_last}
use Rattle.olc_state.proofs.States.{flights_by, flights_map, meant_state, shown_flight, shown_node, shows, state_is}
use Rattle.olc_state.proofs.Unlike.{detached_retired, linked_retired, private_retired}
use Rattle.olc_write.proofs.MakingNodes.{sizes-without}
use Rattle.olc_machine.specs.inner.Inside.{inside}
use Rattle.olc_machine.proofs.Stocked.{meant_sizes, sound_kept}
use Rattle.olc_machine.proofs.Turning.{flown}

-- A TABLE without a retired node of another table
module _ {M : Type 0} (t t' : NodeMap M) (slot stamp : ℕ) (a : PlacedNode M) (here : t slot ≡ Some a) (retired : a.lifetime ≡ is_retired (Some stamp))
    (gone : t' slot ≡ None) (others : (o : ℕ) → o ≢ slot → t' o ≡ t o) where
  -- a node that isn't retired with this stamp is in another slot
  elsewhere : (o : ℕ) (b : PlacedNode M) → t o ≡ Some b → (b.lifetime ≡ is_retired (Some stamp) → ⊥) → o ≢ slot
  elsewhere o b at off e = off (ap (λ (n : PlacedNode M). n.lifetime) (some_same b a (sym (subst (λ z. t z ≡ Some b) e at) ∙ here)) ∙ retired)

  was_there : (o : ℕ) (b : PlacedNode M) → t' o ≡ Some b → t o ≡ Some b
  was_there o b at =
      elim (eqb_tells o slot) [
        | inl e ↦ absurd (none_some b (sym (subst (λ z. t' z ≡ None) (sym e.1) gone) ∙ at))
        | inr off ↦ sym (others o off.1) ∙ at
      ]

  still_linked : (o : ℕ) (b : PlacedNode M) → IsLinked t o b → IsLinked t' o b
  still_linked o b h = record {
    here = others o (elsewhere o b h.here (λ r. linked_retired (Some stamp) (sym h.lifetime ∙ r))) ∙ h.here;
    lifetime = h.lifetime;
  }

  was_linked : (o : ℕ) (b : PlacedNode M) → IsLinked t' o b → IsLinked t o b
  was_linked o b h = record { here = was_there o b h.here; lifetime = h.lifetime }

  off_placed : (root : ℕ) → IsPlaced t root → IsPlaced t' root
  off_placed root placed = record {
    top = placed.top;
    top_linked = still_linked root placed.top placed.top_linked;
    top_prefix = placed.top_prefix;
    top_form = placed.top_form;
    short = λ s b h. placed.short s b (was_linked s b h);
    bytes = λ s b h. placed.bytes s b (was_linked s b h);
    ordered = λ s b h. placed.ordered s b (was_linked s b h);
    below = λ s b h x c e.
        let under = placed.below s b (was_linked s b h) x c e in
        record { node = under.node; linked = still_linked c under.node under.linked; begins = under.begins };
    leaf = λ s b h. placed.leaf s b (was_linked s b h);
    leads = λ s r b d h k begins.
        elim (placed.leads s r b d (was_linked s b h) (was_linked r d k) begins) [
          | inl e ↦ inl e
          | inr on ↦ inr (record { slot = on.slot; node = on.node; entry_is = on.entry_is; linked = still_linked on.slot on.node on.linked; begins = on.begins })
        ];
    free = λ s b at. placed.free s b (was_there s b at);
    locked = λ s b at. placed.locked s b (was_there s b at);
    obsolete = λ s b at. placed.obsolete s b (was_there s b at);
  }

  -- a call that started after the retirement loses nothing
  off_leaves : (pin : ℕ) → stamp < pin → (Mine : ℕ → Type 0) → Guarantees t t' Mine pin
  off_leaves pin started Mine s b at safe =
      let off : s ≢ slot = elsewhere s b at (λ r. let bad : pin ≤ stamp = subst (λ (z : NodeLifetime). IsSafe pin z) r safe in absurd (omega (arith, bad, started))) in
      record {
        node = b;
        here = others s off ∙ at;
        kept = record { prefix = refl; word = omega arith; same = λ free word. refl; safe = safe };
        changed = inl refl;
      }

  off_privates : (Mine : ℕ → Type 0) → PrivateStays t t' Mine
  off_privates Mine s b at private mine = others s (elsewhere s b at (λ r. private_retired (Some stamp) (sym private ∙ r))) ∙ at

  off_needs : (s : ℕ) → NeedsHolder t' s → NeedsHolder t s
  off_needs s need = record { node = need.node; here = was_there s need.node need.here; why = need.why }

  off_keeps : (k : List ℕ) (v : M) → Keeps t k v → Keeps t' k v
  off_keeps k v h = record { slot = h.slot; leaf = h.leaf; linked = still_linked h.slot h.leaf h.linked; full = h.full; begins = h.begins; payload = h.payload }

  on_keeps : (k : List ℕ) (v : M) → Keeps t' k v → Keeps t k v
  on_keeps k v h = record { slot = h.slot; leaf = h.leaf; linked = was_linked h.slot h.leaf h.linked; full = h.full; begins = h.begins; payload = h.payload }

-- a table that keeps the same pairs has the same content
module _ {M : Type 0} (t t' : NodeMap M) (root : ℕ) (s s' : State M) (placed : IsPlaced t root) (placed' : IsPlaced t' root) (shown_by : ShowsNodes t root s) (shown_by' : ShowsNodes t' root s')
    (on : (k : List ℕ) (v : M) → Keeps t k v → Keeps t' k v) (back : (k : List ℕ) (v : M) → Keeps t' k v → Keeps t k v) where
  content_stays : (m : Pairs M) → IsContent s m → IsContent s' m
  content_stays m c = record {
    map = c.map;
    pairs = λ key v. (
      (λ e. let kept = there_kept t root s placed shown_by m c key v e in keeps_stands t' root s' placed' shown_by' key v kept.1 (on _ v kept.0)),
      (λ h. let kept = stands_keeps t' root s' placed' shown_by' key v h in kept_there t root s placed shown_by m c key v kept.1 (back _ v kept.0)),
    );
  }

-- IF A SLOT MAY BE RECLAIMED
retired_so : (p : NodeLife) (life : Option Life) (o : Option ℕ) (stamp : ℕ) → lifetime_of p life ≡ is_retired o → life ≡ Some (Retired (Some stamp)) → lifetime_of p life ≡ is_retired (Some stamp)
retired_so place.Private life o stamp e is = absurd (private_retired o e)
retired_so place.Linked life o stamp e is = absurd (linked_retired o e)
retired_so place.Detached life o stamp e is = absurd (detached_retired o e)
retired_so place.Retired life o stamp e is = ap (λ l. is_retired (stamp_in l)) is

stamped : (life : Option Life) (stamp : ℕ) → stamp_in life ≡ Some stamp → life ≡ Some (Retired (Some stamp))
stamped None stamp e = absurd (none_some stamp e)
stamped (Some InUse) stamp e = absurd (none_some stamp e)
stamped (Some (Retired o)) stamp e = ap (λ z. Some (Retired z)) e

same_stamp : (o r : Option ℕ) → is_retired o ≡ is_retired r → o ≡ r
same_stamp o r e = cc

lives_so : (p : NodeLife) (life : Option Life) (stamp : ℕ) → lifetime_of p life ≡ is_retired (Some stamp) → life ≡ Some (Retired (Some stamp))
lives_so place.Private life stamp e = absurd (private_retired (Some stamp) e)
lives_so place.Linked life stamp e = absurd (linked_retired (Some stamp) e)
lives_so place.Detached life stamp e = absurd (detached_retired (Some stamp) e)
lives_so place.Retired life stamp e = stamped life stamp (same_stamp (stamp_in life) (Some stamp) e)

retired_publicity : (s : NodeLifetime) (stamp : ℕ) → lifetime s ≡ lifetime (is_retired (Some stamp)) → s ≡ is_retired (Some stamp)
retired_publicity is_private stamp e = absurd (cc)
retired_publicity is_linked stamp e = absurd (cc)
retired_publicity is_detached stamp e = absurd (cc)
retired_publicity (is_retired o) stamp e = let same : o ≡ Some stamp = cc in ap is_retired same

used_retired : (stamp : ℕ) → Some InUse ≡ Some (Retired (Some stamp)) → ⊥
used_retired stamp e = cc

-- a retired node in its slot
pub record RetiredAt {M : Type 0} (t : NodeMap M) (slot stamp : ℕ) : Type 0 where
  pub node : PlacedNode M
  pub here : t slot ≡ Some node
  pub retired : node.lifetime ≡ is_retired (Some stamp)

module _ {M : Type 0} where
  node_there : (life : Option Life) (x : Option (Stored M)) (stamp : ℕ) → IsAdmitted (placed_node life x) life → life ≡ Some (Retired (Some stamp))
      → (a : PlacedNode M) × (placed_node life x ≡ Some a) × (a.lifetime ≡ is_retired (Some stamp))
  node_there life None stamp admitted is = absurd (none_some (Retired (Some stamp)) (sym admitted ∙ is))
  node_there life (Some n) stamp (inl used) is = absurd (used_retired stamp (sym used ∙ is))
  node_there life (Some n) stamp (inr so) is = (_, refl, retired_so n.place life so.0 stamp so.1 is)

  life_there : (life : Option Life) (x : Option (Stored M)) (stamp : ℕ) (a : PlacedNode M) → placed_node life x ≡ Some a → a.lifetime ≡ is_retired (Some stamp) → life ≡ Some (Retired (Some stamp))
  life_there life None stamp a e r = absurd (none_some a e)
  life_there life (Some n) stamp a e r = lives_so n.place life stamp (ap (λ (z : PlacedNode M). z.lifetime) (some_same _ a e) ∙ r)

  flight_pin : (r : Option (Record M)) (p : Option ℕ) (call : CallState M) → flight_in r p ≡ Some call → p ≡ Some call.pin
  flight_pin None None call e = absurd (none_some call e)
  flight_pin None (Some p) call e = absurd (none_some call e)
  flight_pin (Some r) None call e = absurd (none_some call e)
  flight_pin (Some r) (Some p) call e = ap (λ (x : CallState M). Some x.pin) (some_same (flight p r) call e)

started_by : (stamp : ℕ) (x : Option ℕ) → ((pin : ℕ) → x ≡ Some pin → stamp < pin) → StartedAfter stamp x
started_by stamp None h = tt
started_by stamp (Some pin) h = h pin refl

module _ {M : Type 0} (Granted : Type 0) (same : M → M → Bool) (w : World M) (sound : IsSoundWorld Granted same w) (slot : ℕ) where
  -- a node that is retired by the pins is retired in the table
  pub retired_node : (may : epoch.IsReclaimable w.pins slot) → RetiredAt (table_of w) slot may.stamp
  retired_node may =
      let there = node_there (entry_at w.pins.slots slot) (slice_index_or w.slots slot None) may.stamp (sound.admitted slot) may.retired in
      record { node = there.0; here = there.1; retired = there.2 }

  pub started_since : (may : epoch.IsReclaimable w.pins slot) (id pin : ℕ) → pin_of w.pins id ≡ Some pin → may.stamp < pin
  started_since may id pin e = subst (λ x. StartedAfter may.stamp x) e (may.after id)

  pub reader_may : epoch.IsReclaimable w.pins slot → MayReclaim (state_of w) slot
  reader_may may =
      let at = retired_node may in
      record {
        node = one at.node;
        stamp = may.stamp;
        here = shown_node w slot ∙ ap shown at.here;
        is_retired = ap lifetime at.retired;
        started = λ id call e.
            elim (cases_lt id (2 ^ 64)) [
              | inl small ↦ started_since may id call.pin (flight_pin (record_of w id) (pin_of w.pins id) call (sym (shown_flight w id small) ∙ e))
              | inr wide ↦ absurd (none_some call (sym (lookup-above 0 (2 ^ 64) (state_of w).calls id (flights_map w) wide) ∙ e))
            ];
      }

  some_record : (x : Option (Record M)) → IsSome x → (r : Record M) × (x ≡ Some r)
  some_record None h = absurd (let n : Option (Record M) = None in cc)
  some_record (Some r) h = (r, refl)

  pub pins_may : MayReclaim (state_of w) slot → epoch.IsReclaimable w.pins slot
  pins_may may =
      let at = shown_at (table_of w slot) may.node (sym (shown_node w slot) ∙ may.here) in
      let retired : at.0.lifetime ≡ is_retired (Some may.stamp) = retired_publicity at.0.lifetime may.stamp (subst (λ z. z.lifetime ≡ lifetime (is_retired (Some may.stamp))) at.2 may.is_retired) in
      record {
        stamp = may.stamp;
        retired = life_there (entry_at w.pins.slots slot) (slice_index_or w.slots slot None) may.stamp at.0 at.1 retired;
        after = λ id. started_by may.stamp (pin_of w.pins id) (λ pin e.
            let r = some_record (record_of w id) (sound.called id pin e) in
            may.started id (flight pin r.0) (flown w id pin r.0 (sound.numbered id r.0 r.1) r.1 e));
      }

-- the world after a slot was reclaimed
pub record IsGone {M : Type 0} (w w' : World M) (slot size : ℕ) : Type 0 where
  pub gone : table_of w' slot ≡ None
  pub others : (o : ℕ) → o ≢ slot → table_of w' o ≡ table_of w o
  pub root : w'.root ≡ w.root
  pub seats : w'.pins.seats ≡ w.pins.seats
  pub count : w'.pins.count ≡ w.pins.count
  pub calls : w'.calls ≡ w.calls
  pub entries : w'.entries ≡ w.entries
  pub admitted : AllAdmitted (table_of w') w'.pins.slots
  pub sizes : stored_sizes w.slots ≡ stored_sizes w'.slots + size
  pub charged : w.charge ≡ add_charge w'.charge size

covers_left : (before after : Option Charge) (all left size : ℕ) → before ≡ add_charge after size → all ≡ left + size → Covers before all → Covers after left
covers_left before None all left size e sizes c = tt
covers_left before (Some n) all left size e sizes c = let more : all ≤ n.bytes + size = subst (λ (x : Option Charge). Covers x all) e c in omega (arith, more, sizes)

module _ {M : Type 0} (Granted : Type 0) (same : M → M → Bool) (w w' : World M) (sound : IsSoundWorld Granted same w) (slot : ℕ) (may : epoch.IsReclaimable w.pins slot)
    (at : RetiredAt (table_of w) slot may.stamp) (is : IsGone w w' slot (stated_size at.node.node.form)) where
  same_pin : (o : ℕ) → pin_of w'.pins o ≡ pin_of w.pins o
  same_pin o = let seats = is.seats in rw seats refl

  same_call : (o : ℕ) → record_of w' o ≡ record_of w o
  same_call o = ap (λ calls. record_in (entry_at calls o)) is.calls

  placed_now : IsPlaced (table_of w') w.root
  placed_now = off_placed (table_of w) (table_of w') slot may.stamp at.node at.here at.retired is.gone is.others w.root sound.placed

  leaves_now : (id pin : ℕ) → pin_of w.pins id ≡ Some pin → Guarantees (table_of w) (table_of w') (λ s. ⊥) pin
  leaves_now id pin e = off_leaves (table_of w) (table_of w') slot may.stamp at.node at.here at.retired is.gone is.others pin (started_since Granted same w sound slot may id pin e) (λ s. ⊥)

  shows_now : ShowsNodes (table_of w') w.root (state_of w')
  shows_now = record { nodes = shown_node w'; root_is = is.root }

  pub freed_content : (m : Pairs M) → IsContent (state_of w) m → IsContent (state_of w') m
  freed_content =
      content_stays (table_of w) (table_of w') w.root (state_of w) (state_of w') sound.placed placed_now (shows w) shows_now
      (off_keeps (table_of w) (table_of w') slot may.stamp at.node at.here at.retired is.gone is.others)
      (on_keeps (table_of w) (table_of w') slot may.stamp at.node at.here at.retired is.gone is.others)

  content_before : (m : Pairs M) → IsContent (state_of w') m → IsContent (state_of w) m
  content_before =
      content_stays (table_of w') (table_of w) w.root (state_of w') (state_of w) placed_now sound.placed shows_now (shows w)
      (on_keeps (table_of w) (table_of w') slot may.stamp at.node at.here at.retired is.gone is.others)
      (off_keeps (table_of w) (table_of w') slot may.stamp at.node at.here at.retired is.gone is.others)

  facts_now : (o p : ℕ) (q : Record M) → record_of w' o ≡ Some q → pin_of w'.pins o ≡ Some p → Facts Granted same (table_of w') w'.root p q
  facts_now o p q e f =
      let pinned : pin_of w.pins o ≡ Some p = sym (same_pin o) ∙ f in
      subst (λ z. Facts Granted same (table_of w') z p q) (sym is.root)
      (facts_last (table_of w) (table_of w') (λ s. ⊥) p (leaves_now o p pinned) Granted same
      (off_privates (table_of w) (table_of w') slot may.stamp at.node at.here at.retired is.gone is.others (λ s. ⊥)) w.root q (λ s theirs mine. mine)
      (sound.facts o p q (sym (same_call o) ∙ e) pinned))

  pub freed_sound : IsSoundWorld Granted same w'
  freed_sound = record {
    placed = subst (λ z. IsPlaced (table_of w') z) (sym is.root) placed_now;
    facts = facts_now;
    pinned = λ o q e. subst (λ (x : Option ℕ). IsSome x) (sym (same_pin o)) (sound.pinned o q (sym (same_call o) ∙ e));
    called = λ o p f. subst (λ (x : Option (Record M)). IsSome x) (sym (same_call o)) (sound.called o p (sym (same_pin o) ∙ f));
    numbered = λ o q e. sound.numbered o q (sym (same_call o) ∙ e);
    seated = λ o f.
        let old = let seats = is.seats in rw seats at f in
        subst (λ calls. IsSome (entry_at calls o)) (sym is.calls) (sound.seated o old);
    before = λ o p f. subst (λ n. p ≤ n) (sym is.count) (sound.before o p (sym (same_pin o) ∙ f));
    apart = λ i j s r q e f. sound.apart i j s r q (sym (same_call i) ∙ e) (sym (same_call j) ∙ f);
    held = λ s need.
        let h = sound.held s (off_needs (table_of w) (table_of w') slot may.stamp at.node at.here at.retired is.gone is.others s need) in
        (h.0, h.1, same_call h.0 ∙ h.2, h.3);
    admitted = is.admitted;
    narrow = λ s b e. sound.narrow s b (was_there (table_of w) (table_of w') slot may.stamp at.node at.here at.retired is.gone is.others s b e);
    charged = covers_left w.charge w'.charge (stored_sizes w.slots) (stored_sizes w'.slots) (stated_size at.node.node.form) is.charged is.sizes sound.charged;
    counted = λ m c. is.entries ∙ sound.counted m (content_before m c);
  }

  flights_now : (state_of w').calls ≡ (state_of w).calls
  flights_now =
      flights_by w w' 0 (state_of w).calls (flights_map w)
      (shown_flight w 0 (omega arith) ∙ sym (ap (λ x. flight_in x (pin_of w'.pins 0)) (same_call 0) ∙ ap (λ p. flight_in (record_of w 0) p) (same_pin 0)))
      (λ o off. refl) (record { records = λ o off. same_call o; pins = λ o off. same_pin o })

  pub freed : IsFreed Granted same w w' slot (report_of kind.Reclaim (Some slot) 0 true)
  freed = record {
    before = sound;
    after = freed_sound;
    calls = same_call;
    pins = same_pin;
    root = is.root;
    leaves = leaves_now;
    reclaim = record {
      charge = w'.charge;
      may = reader_may Granted same w sound slot may;
      is = refl;
      frees = record {
        size = stated_size at.node.node.form;
        sizes = sizes-without (state_of w).nodes slot (one at.node) (shown_node w slot ∙ ap shown at.here);
        charged = is.charged;
      };
      after = state_is (state_of w') (without (state_of w).nodes slot) w.root w.pins.count (state_of w).calls (seats_on w.pins.seats) w.entries w'.charge
          (node_gone w w' slot is.gone is.others) is.root is.count flights_now (ap seats_on is.seats) is.entries refl;
    };
    carries = freed_content;
  }

covers_part : (charge : Option Charge) (all left size : ℕ) → Covers charge all → all ≡ left + size → Covers charge size
covers_part None all left size c e = tt
covers_part (Some n) all left size c e = omega (arith, c, e)

-- THE INSIDE after a slot was reclaimed
module _ {P A M : Type 0} (meaning : P → M) (charge : A → Option Charge) (Granted : Type 0) (same : M → M → Bool) (stock : Stock P A) (calls : BTreeMap ℕ (Option (Record P)))
    (sound : IsSoundWorld Granted same (meant_world meaning (inside charge (record { stock = stock; calls = calls })))) (slot : ℕ)
    (may : MayReclaim (state_of (meant_world meaning (inside charge (record { stock = stock; calls = calls })))) slot) where
  abbrev before : World M
  before = meant_world meaning (inside charge (record { stock = stock; calls = calls }))

  pub let_go : epoch.IsReclaimable stock.store.pins slot
  let_go = pins_may Granted same before sound slot may

  pub node_at : RetiredAt (table_of before) slot let_go.stamp
  node_at = retired_node Granted same before sound slot let_go

  pub part_covered : (left : List (Option (Stored P))) (form : NodeType) → stored_sizes stock.store.nodes.slots ≡ stored_sizes left + stated_size form → Covers (charge stock.budget) (stated_size form)
  part_covered left form sizes =
      covers_part (charge stock.budget) (stored_sizes stock.store.nodes.slots) (stored_sizes left) (stated_size form)
      (sound_kept meaning charge Granted same stock calls sound).covered sizes

  pub freed_by : (now : Stock P A) (form : NodeType) → SetsNode meaning stock.store now.store slot None → form ≡ node_at.node.node.form
      → stored_sizes stock.store.nodes.slots ≡ stored_sizes now.store.nodes.slots + stated_size form
      → AllAdmitted (meant_table meaning now.store) now.store.pins.slots
      → charge stock.budget ≡ add_charge (charge now.budget) (stated_size form) → now.entries ≡ stock.entries
      → IsFreed Granted same before (meant_world meaning (inside charge (record { stock = now; calls = calls }))) slot (report_of kind.Reclaim (Some slot) 0 true)
  freed_by now form sets form_is sizes admitted charged entries =
      freed Granted same before (meant_world meaning (inside charge (record { stock = now; calls = calls }))) sound slot let_go node_at
      (record {
        gone = sets.here;
        others = sets.others;
        root = sets.root;
        seats = sets.seats;
        count = sets.count;
        calls = refl;
        entries = entries;
        admitted = admitted;
        sizes = meant_sizes meaning stock.store.nodes.slots
            ∙ (sizes ∙ (ap (λ n. n + stated_size form) (sym (meant_sizes meaning now.store.nodes.slots)) ∙ ap (λ f. stored_sizes (meant_slots meaning now.store.nodes.slots) + stated_size f) form_is));
        charged = charged ∙ ap (λ f. add_charge (charge now.budget) (stated_size f)) form_is;
      })

module _ {X : Type 0} (Q R : X → Type 0) (on : (v : X) → Q v → R v) where
  pub some_on : (x : Option X) → IfSome x Q → IfSome x R
  some_on None h = tt
  some_on (Some v) h = on v h

pub none_on : {X : Type 0} (x : Option X) (Q R : Type 0) → (Q → R) → IfNone x Q → IfNone x R
none_on None Q R on h = on h
none_on (Some v) Q R on h = tt

-- what a Reclaim does, as a reader sees it
module _ {P M : Type 0} (meaning : P → M) (w w' : World P) where
  pub shown_reclaim : (slot : ℕ) (report : Report) → IsReclaim (state_of (meant_world meaning w)) (state_of (meant_world meaning w')) slot report
      → IsReclaim (meant meaning (state_of w)) (meant meaning (state_of w')) slot report
  shown_reclaim slot report reclaim =
      subst (λ (s : State M). IsReclaim s (meant meaning (state_of w')) slot report) (sym (meant_state meaning w))
      (subst (λ (s : State M). IsReclaim (state_of (meant_world meaning w)) s slot report) (sym (meant_state meaning w')) reclaim)

  pub shown_content : (m : Pairs M) → (IsContent (state_of (meant_world meaning w)) m → IsContent (state_of (meant_world meaning w')) m)
      → IsContent (meant meaning (state_of w)) m → IsContent (meant meaning (state_of w')) m
  shown_content m carries c =
      subst (λ (s : State M). IsContent s m) (sym (meant_state meaning w')) (carries (subst (λ (s : State M). IsContent s m) (meant_state meaning w) c))
