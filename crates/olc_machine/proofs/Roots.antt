-- The machine of the root alone.
use Rattle.std.proofs.Common.{Bool, ◌≡◌, ◌≢◌, ℕ, zero, suc, ◌+◌, ◌<◌, ◌≤◌, ◌^◌, List, [], ◌∷◌, length, Option, Some, None, inl, inr, refl, sym, subst, ap, ◌∙◌, arith, slice_index_or}
use Rattle.std.proofs.lemmas.Bool.{eq-eqb, false≢true}
use Rattle.std.proofs.lemmas.Bool.Decides.{eqb_tells}
use Rattle.node_base.specs.Form.{stated_size}
use Rattle.node_base.specs.declared.base_node.NodeType.TheVariants.{N256}
use Rattle.spec_map.specs.Map.{Pairs, lookup, Rises}
use Rattle.spec_map.proofs.MapLaws.{same_from_lookups}
use Rattle.node_table.specs.Charge.{Charge, add_charge, Covers}
use Rattle.spec_node.specs.Key.{AreBytes}
use Rattle.spec_node.specs.TableNode.{TableNode, Child}
use Rattle.spec_node.specs.declared.child.Child.TheVariants.{Payload, Node as below_at}
use Rattle.spec_olc.specs.Content.{IsStoredAt, IsContent}
use Rattle.spec_olc.specs.Runs.{bare_root, fresh}
use Rattle.spec_olc.specs.Meaning.{in_some}
use Rattle.spec_olc.specs.State.{State}
use Rattle.spec_olc.specs.State as state
use Rattle.olc_words.specs.Epoch.{ChangesLife, PinsView, admitted, entry_at, life_of}
use Rattle.olc_words.specs.declared.epoch.Life.{Life}
use Rattle.olc_words.specs.declared.epoch.Life.TheVariants.{InUse}
use Rattle.spec_olc.specs.Lock.{IsLocked, IsObsolete}
use Rattle.olc_state.specs.declared.stage.NodeLife.TheVariants.{Linked}
use Rattle.olc_state.specs.declared.stage.Record.{Record}
use Rattle.olc_state.specs.declared.stage.Stored.{Stored}
use Rattle.olc_state.specs.inner.Tables.{IsPlaced, NeedsHolder}
use Rattle.olc_state.specs.inner.Facts.{IsAdmitted, IsSoundWorld, stored_sizes}
use Rattle.olc_state.specs.inner.Meant.{meant_node, meant_slots, meant_stored, meant_world}
use Rattle.olc_state.specs.inner.Shown.{shown, state_of}
use Rattle.olc_state.specs.inner.World.{World, PlacedNode, NodeMap, entry, is_linked, placed_node}
use Rattle.olc_state.proofs.Options.{none_some, some_same}
use Rattle.olc_state.proofs.States.{meant_slot, nodes_rise, shown_node}
use Rattle.olc_state.proofs.Unlike.{linked_private, linked_retired}

abbrev pub top : {X : Type 0} → PlacedNode X
top = record { word = 0; node = record { form = N256; prefix = []; children = [] }; lifetime = is_linked }

not_odd : let n : ℕ = 0 in n ≡ 1 → ⊥
not_odd e = absurd (omega arith)

-- what is charged after a size was added covers that size
covers_added : (before : Option Charge) (size : ℕ) → Covers (add_charge before size) size
covers_added None size = tt
covers_added (Some n) size = omega arith

plus_none : (n : ℕ) → n + 0 ≡ n
plus_none n = omega arith

not_same : (o r : ℕ) → o ≢ r → suc o ≢ suc r
not_same o r ne e = ne (omega (arith, e))

-- a table with the root alone
module _ {X : Type 0} (t : NodeMap X) (root : ℕ) (here : t root ≡ Some top) (others : (o : ℕ) → o ≢ root → t o ≡ None) where
  only : (s : ℕ) (b : PlacedNode X) → t s ≡ Some b → (s ≡ root) × (b ≡ top)
  only s b h =
      elim (eqb_tells s root) [
        | inl e ↦ (e.1, some_same b top (sym (subst (λ z. t z ≡ Some b) e.1 h) ∙ here))
        | inr off ↦ absurd (none_some b (sym (others s off.1) ∙ h))
      ]

  no_entry : (s : ℕ) (b : PlacedNode X) (x : ℕ) (c : Child X) → t s ≡ Some b → entry b x ≡ Some c → ⊥
  no_entry s b x c h e = none_some c (subst (λ (z : PlacedNode X). entry z x ≡ Some c) (only s b h).1 e)

  root_placed : IsPlaced t root
  root_placed = record {
    top = top;
    top_linked = record { here = here; lifetime = refl };
    top_prefix = refl;
    top_form = refl;
    short = λ s a h. subst (λ (z : PlacedNode X). length z.node.prefix ≤ 7) (sym (only s a h.here).1) (omega arith);
    bytes = λ s a h. subst (λ (z : PlacedNode X). AreBytes z.node.prefix) (sym (only s a h.here).1) tt;
    ordered = λ s a h. subst (λ (z : PlacedNode X). Rises 0 256 z.node.children) (sym (only s a h.here).1) tt;
    below = λ s a h x c e. absurd (no_entry s a x (below_at c) h.here e);
    leaf = λ s a h x v e. absurd (no_entry s a x (Payload v) h.here e);
    leads = λ s r a b h g e. inl ((only s a h.here).0 ∙ sym (only r b g.here).0);
    free = λ s a h e. inl (ap (λ (z : PlacedNode X). z.lifetime) (only s a h).1);
    locked = λ s a h o. absurd (not_odd (subst (λ (z : PlacedNode X). IsObsolete z.word) (only s a h).1 o));
    obsolete = λ s a h. (
      (λ (o : IsObsolete a.word). absurd (not_odd (subst (λ (z : PlacedNode X). IsObsolete z.word) (only s a h).1 o))),
      (λ r. absurd (linked_retired r.0 (sym (ap (λ (z : PlacedNode X). z.lifetime) (only s a h).1) ∙ r.1))),
    );
  }

  none_needed : (s : ℕ) → NeedsHolder t s → ⊥
  none_needed s n =
      let is : n.node ≡ top = (only s n.node n.here).1 in
      elim n.why [
        | inl e ↦ linked_private (sym (ap (λ (z : PlacedNode X). z.lifetime) is) ∙ e)
        | inr e ↦ not_odd (subst (λ (z : PlacedNode X). IsLocked z.word) is e.0)
      ]

-- the sum of the sizes of all nodes if there is none, or one
module _ {X : Type 0} where
  some_stored : (n : Stored X) → Some n ≡ None → ⊥
  some_stored n e = cc

  sizes_none : (slots : List (Option (Stored X))) → ((o : ℕ) → slice_index_or slots o None ≡ None) → stored_sizes slots ≡ 0
  sizes_none [] none = refl
  sizes_none (None ∷ slots) none = sizes_none slots (λ o. none (suc o))
  sizes_none (Some m ∷ slots) none = absurd (some_stored m (none 0))

  sizes_one : (slots : List (Option (Stored X))) (root : ℕ) (n : Stored X) → slice_index_or slots root None ≡ Some n → ((o : ℕ) → o ≢ root → slice_index_or slots o None ≡ None)
      → stored_sizes slots ≡ stated_size n.node.form
  sizes_one [] root n here others = absurd (none_some n here)
  sizes_one (None ∷ slots) zero n here others = absurd (none_some n here)
  sizes_one (Some m ∷ slots) zero n here others =
      let rest : stored_sizes slots ≡ 0 = sizes_none slots (λ o. others (suc o) (λ e. absurd (omega (arith, e)))) in
      let same : m ≡ n = some_same m n here in
      ap (λ r. stated_size m.node.form + r) rest ∙ (plus_none (stated_size m.node.form) ∙ ap (λ (z : Stored X). stated_size z.node.form) same)
  sizes_one (None ∷ slots) (suc root) n here others = sizes_one slots root n here (λ o ne. others (suc o) (not_same o root ne))
  sizes_one (Some m ∷ slots) (suc root) n here others = absurd (some_stored m (others 0 (λ e. absurd (omega (arith, e)))))

-- the state of the root alone
module _ {X : Type 0} where
  first_is : (e : ℕ × X) (m : Pairs X) → lookup (e ∷ m) e.0 ≡ Some e.1
  first_is e m = rw (eq-eqb e.0 e.0 refl) refl

  only_bare : (root : ℕ) (slot : ℕ) (a : state.VersionedNode X) → lookup ((root, bare_root) ∷ []) slot ≡ Some a → a ≡ bare_root
  only_bare root slot a h =
      elim (eqb_tells root slot) [
        | inl at ↦ let is = rw at.0 at h in sym (some_same bare_root a is)
        | inr far ↦ let is = rw far.0 at h in absurd (none_some a is)
      ]

  none_stands : (root : ℕ) (charge : Option Charge) (key : ℕ) (v : X) → IsStoredAt (fresh root charge) key v → ⊥
  none_stands root charge key v h =
      let e = h.payload in
      none_some (Payload v) (subst (λ (a : state.VersionedNode X). lookup a.node.children h.byte ≡ Some (Payload v)) (only_bare root h.slot e.above e.here) e.entry)

  none_counted : (root : ℕ) (charge : Option Charge) (m : Pairs X) → IsContent (fresh root charge) m → 0 ≡ length m
  none_counted root charge [] c = refl
  none_counted root charge (e ∷ m) c = absurd (none_stands root charge e.0 e.1 ((c.pairs e.0 e.1).0 (first_is e m)))

abbrev none_in_flight : List (ℕ × Life) → PinsView
none_in_flight lives = record { seats = []; slots = lives; count = 0 }

abbrev pub alone : {X : Type 0} → List (Option (Stored X)) → List (ℕ × Life) → ℕ → Option Charge → World X
alone slots lives root charge = record { slots = slots; root = root; pins = none_in_flight lives; calls = []; entries = 0; charge = charge }

pub alone_is : {X : Type 0} (slots : List (Option (Stored X))) (root : ℕ) (pins : PinsView) (calls : List (ℕ × Option (Record X))) (charge stated : Option Charge)
    → pins.seats ≡ [] → pins.count ≡ 0 → calls ≡ [] → charge ≡ stated
    → record { slots = slots; root = root; pins = pins; calls = calls; entries = 0; charge = charge } ≡ alone slots pins.slots root stated
alone_is {X} slots root pins calls charge stated seats count none same =
    let w : World X = record { slots = slots; root = root; pins = pins; calls = calls; entries = 0; charge = charge } in
    let none_seated : PinsView = record pins { seats = [] } in
    ap (λ l. record w { pins = record pins { seats = l } }) seats
    ∙ ap (λ n. record w { pins = record none_seated { count = n } }) count
    ∙ ap (λ l. record w { pins = none_in_flight pins.slots; calls = l }) none
    ∙ ap (λ c. record w { pins = none_in_flight pins.slots; calls = []; charge = c }) same

module _ {X : Type 0} (slots : List (Option (Stored X))) (lives : List (ℕ × Life)) (root : ℕ) (n : Stored X)
    (here : slice_index_or slots root None ≡ Some n) (others : (o : ℕ) → o ≢ root → slice_index_or slots o None ≡ None)
    (word : n.word ≡ 0) (place : n.place ≡ Linked) (node : n.node ≡ record { form = N256; prefix = []; children = [] }) where
  node_top : (life : Option Life) → placed_node life (Some n) ≡ Some top
  node_top life = rw (word, place, node) refl

  at_top : placed_node (entry_at lives root) (slice_index_or slots root None) ≡ Some top
  at_top = ap (placed_node (entry_at lives root)) here ∙ node_top (entry_at lives root)

  off_top : (o : ℕ) → o ≢ root → placed_node (entry_at lives o) (slice_index_or slots o None) ≡ None
  off_top o off = ap (placed_node (entry_at lives o)) (others o off)

  root_lookup : (charge : Option Charge) (s : ℕ) → lookup (state_of (alone slots lives root charge)).nodes s ≡ lookup ((root, bare_root) ∷ []) s
  root_lookup charge s =
      elim (eqb_tells root s) [
        | inl at ↦ rw at.0 (shown_node (alone slots lives root charge) s ∙ ap shown (subst (λ z. placed_node (entry_at lives z) (slice_index_or slots z None) ≡ Some top) at.1 at_top))
        | inr far ↦ rw far.0 (shown_node (alone slots lives root charge) s ∙ ap shown (off_top s (λ e. far.1 (sym e))))
      ]

  -- it is fresh
  pub root_fresh : (charge : Option Charge) → state_of (alone slots lives root charge) ≡ fresh root charge
  root_fresh charge =
      let w : World X = alone slots lives root charge in
      ap (λ ns. record (fresh root charge) { nodes = ns })
      (same_from_lookups 0 (length slots) 0 (root + 1) (state_of w).nodes ((root, bare_root) ∷ []) (nodes_rise w) (omega arith, omega arith, tt) (root_lookup charge))

  -- and sound
  pub root_sound : (Granted : Type 0) (same : X → X → Bool) (before : Option Charge) → root < 2 ^ 64 → entry_at lives root ≡ Some InUse → ((o : ℕ) → o ≢ root → entry_at lives o ≡ None)
      → IsSoundWorld Granted same (alone slots lives root (add_charge before 2104))
  root_sound Granted same before narrow life bare =
      let charge = add_charge before 2104 in
      let t : NodeMap X = λ s. placed_node (entry_at lives s) (slice_index_or slots s None) in
      record {
        placed = root_placed t root at_top off_top;
        facts = λ id pin r e f. absurd (none_some r e);
        pinned = λ id r e. absurd (none_some r e);
        called = λ id pin e. absurd (none_some pin e);
        numbered = λ id r e. absurd (none_some r e);
        seated = λ id e. absurd (false≢true e);
        before = λ id pin e. absurd (none_some pin e);
        apart = λ i j s r q e f. absurd (none_some r e);
        held = λ s h. absurd (none_needed t root at_top off_top s h);
        admitted = λ s.
            elim (eqb_tells s root) [
              | inl at ↦ subst (λ z. IsAdmitted (t z) (entry_at lives z)) (sym at.1) (subst (λ (x : Option (PlacedNode X)). IsAdmitted x (entry_at lives root)) (sym at_top) (inl life))
              | inr off ↦ subst (λ (x : Option (PlacedNode X)). IsAdmitted x (entry_at lives s)) (sym (off_top s off.1)) (bare s off.1)
            ];
        narrow = λ s a e. subst (λ z. z < 2 ^ 64) (sym (only t root at_top off_top s a e).0) narrow;
        charged =
            let size : stored_sizes slots ≡ 2104 = sizes_one slots root n here others ∙ ap (λ (z : TableNode X). stated_size z.form) node in
            subst (λ z. Covers charge z) (sym size) (covers_added before 2104);
        counted = λ m c. none_counted root charge m (subst (λ (s : State X). IsContent s m) (root_fresh charge) c);
      }

-- its nodes, with payloads replaced by their meanings
module _ {P M : Type 0} (meaning : P → M) (slots : List (Option (Stored P))) (lives : List (ℕ × Life)) (root : ℕ) (n : Stored P)
    (here : slice_index_or slots root None ≡ Some n) (others : (o : ℕ) → o ≢ root → slice_index_or slots o None ≡ None)
    (word : n.word ≡ 0) (place : n.place ≡ Linked) (node : n.node ≡ record { form = N256; prefix = []; children = [] }) where
  pub meant_sound : (Granted : Type 0) (same : M → M → Bool) (before : Option Charge) → root < 2 ^ 64 → entry_at lives root ≡ Some InUse → ((o : ℕ) → o ≢ root → entry_at lives o ≡ None)
      → IsSoundWorld Granted same (meant_world meaning (alone slots lives root (add_charge before 2104)))
  meant_sound Granted same before narrow life bare =
      root_sound (meant_slots meaning slots) lives root (meant_stored meaning n)
      (meant_slot meaning slots root ∙ ap (in_some (meant_stored meaning)) here)
      (λ o off. meant_slot meaning slots o ∙ ap (in_some (meant_stored meaning)) (others o off))
      word place (ap (meant_node meaning) node) Granted same before narrow life bare

-- if the root's slot alone was admitted
module _ (before after : PinsView) (root : ℕ) (empty : before ≡ record { seats = []; slots = []; count = 0 })
    (admits : ChangesLife before after root (Some (admitted (life_of before root)))) where
  pub root_admitted : entry_at after.slots root ≡ Some InUse
  root_admitted = admits.here ∙ ap (λ p. Some (admitted (life_of p root))) empty

  pub none_admitted : (o : ℕ) → o ≢ root → entry_at after.slots o ≡ None
  none_admitted o off = admits.others o off ∙ ap (λ p. life_of p o) empty

  pub none_seated : after.seats ≡ []
  none_seated = admits.seats ∙ ap (λ (p : PinsView). p.seats) empty
