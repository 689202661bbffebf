-- A sound inside is well formed.
use Rattle.std.proofs.Common.{Bool, ◌≡◌, ℕ, ◌+◌, ◌<◌, ◌≤◌, ◌^◌, IsTrue, List, [], ◌∷◌, ◌++◌, length, length-append, get_or, Option, Some, None, IsSome, inl, inr, refl, sym, subst, ap, ◌∙◌, arith}
use Rattle.std.proofs.lemmas.Bool.{cases_lt}
use Rattle.std.proofs.lemmas.Bool.Decides.{eqb_tells}
use Rattle.node_base.specs.Form.{stated_size}
use Rattle.spec_map.specs.Map.{lookup, with_answer, without, Rises}
use Rattle.spec_map.proofs.MapLaws.{put-below, without-absent, lookup-below}
use Rattle.node_table.specs.Charge.{Covers}
use Rattle.spec_node.specs.Key.{Begins}
use Rattle.spec_node.specs.TableNode.{TableNode, Child, MayHave}
use Rattle.spec_node.specs.declared.child.Child.TheVariants.{Payload, Node as below_at}
use Rattle.node_table.proofs.BeginLaws.{begins_append}
use Rattle.spec_olc.specs.Content.{Reaches, HasEntry}
use Rattle.spec_olc.specs.Lists.{is_in}
use Rattle.spec_olc.specs.State.{State, CallState, Lifetime, not_yet, published, retired, unlinked}
use Rattle.spec_olc.specs.State as state
use Rattle.spec_olc.specs.WellFormed.{Holds, HasMade, AgreesWithHolders, IsWellFormed}
use Rattle.spec_olc.specs.WellFormed as reader
use Rattle.spec_olc.specs.Lock.{IsLocked, IsObsolete}
use Rattle.olc_words.specs.Epoch.{entry_at, pin_of}
use Rattle.olc_words.specs.declared.epoch.Life.{Life}
use Rattle.olc_state.specs.declared.stage.Record.{Record}
use Rattle.olc_state.specs.declared.stage.Stored.{Stored}
use Rattle.olc_state.specs.inner.Tables.{byte_at, IsLinked, IsBelow, IsPlaced}
use Rattle.olc_state.specs.inner.Facts.{Facts, Holding, IsSoundWorld, stored_sizes}
use Rattle.olc_state.specs.inner.Shown.{lifetime, shown, nodes_from, flight, flight_in, held_at, made_at, state_of}
use Rattle.olc_state.specs.inner.Turns.{ShowsNodes}
use Rattle.olc_state.specs.inner.World.{World, NodeLifetime, is_private, is_linked, is_detached, is_retired, PlacedNode, NodeMap, placed_node, table_of, entry, record_of}
use Rattle.olc_state.proofs.Holding.{StandsLocked, StandsPrivate, holds_at, made_at_slot}
use Rattle.olc_state.proofs.Ways.{Begins-trans, Begins-both, get_or-begins, longer-begins, slots_same}
use Rattle.olc_state.proofs.Reaching.{lookup-inside, last-byte, one, shown_at, reaches_linked, linked_reaches, onward}
use Rattle.olc_state.proofs.Narrow.{nodes_narrow}
use Rattle.olc_state.proofs.States.{shown_node, shown_flight, flights_map, nodes-rise}
use Rattle.olc_state.proofs.States as states
use Rattle.olc_state.proofs.Options.{none_some, some_same}

not_yet_published : not_yet ≡ published → ⊥
not_yet_published e = cc

some_of : {X : Type 0} (o : Option X) → IsSome o → (x : X) × (o ≡ Some x)
some_of None h = absurd (cc)
some_of (Some x) h = (x, refl)

-- a node's state by what a reader sees of it
standing_retired : (s : NodeLifetime) (stamp : Option ℕ) → lifetime s ≡ retired stamp → s ≡ is_retired stamp
standing_retired is_private stamp e = absurd (cc)
standing_retired is_linked stamp e = absurd (cc)
standing_retired is_detached stamp e = absurd (cc)
standing_retired (is_retired o) stamp e = let same : o ≡ stamp = cc in ap is_retired same

standing_private : (s : NodeLifetime) → lifetime s ≡ not_yet → s ≡ is_private
standing_private is_private e = refl
standing_private is_linked e = absurd (cc)
standing_private is_detached e = absurd (cc)
standing_private (is_retired o) e = absurd (cc)

locked_word : (word : ℕ) → word ≡ 0 → IsLocked word → ⊥
locked_word word none locked = let l : IsLocked 0 = subst IsLocked none locked in omega (arith, l)

-- the byte of a longer list after a list and a byte
byte_after : (p q : List ℕ) (b : ℕ) → Begins (p ++ b ∷ []) q → get_or q (length p) 0 ≡ b
byte_after p q b h =
    let l : length (p ++ b ∷ []) ≡ length p + 1 = length-append p (b ∷ []) in
    sym (get_or-begins (p ++ b ∷ []) q (length p) h (omega arith)) ∙ last-byte p b

module _ {M : Type 0} (t : NodeMap M) (root : ℕ) (s : State M) (placed : IsPlaced t root) (shows : ShowsNodes t root s) where
  -- the node under a byte of a linked node
  child_in : (p c : ℕ) (a n : PlacedNode M) (x : ℕ) → IsLinked t p a → IsLinked t c n → entry a x ≡ Some (below_at c) → Begins (a.node.prefix ++ x ∷ []) n.node.prefix
  child_in p c a n x ha hn e =
      let g : IsBelow t a x c = placed.below p a ha x c e in
      subst (λ (z : PlacedNode M). Begins (a.node.prefix ++ x ∷ []) z.node.prefix) (some_same g.node n (sym g.linked.here ∙ hn.here)) g.begins

  shorter_parent : (m p c : ℕ) (b a n : PlacedNode M) (y x : ℕ) → IsLinked t m b → IsLinked t p a → IsLinked t c n → entry b y ≡ Some (below_at c) → entry a x ≡ Some (below_at c)
      → length b.node.prefix ≤ length a.node.prefix → m ≡ p
  shorter_parent m p c b a n y x hb ha hn eb ea le =
      let begins_b = child_in m c b n y hb hn eb in
      let begins_a = child_in p c a n x ha hn ea in
      let b_n : Begins b.node.prefix n.node.prefix = Begins-trans b.node.prefix (b.node.prefix ++ y ∷ []) n.node.prefix (begins_append b.node.prefix (y ∷ [])) begins_b in
      let a_n : Begins a.node.prefix n.node.prefix = Begins-trans a.node.prefix (a.node.prefix ++ x ∷ []) n.node.prefix (begins_append a.node.prefix (x ∷ [])) begins_a in
      let b_a : Begins b.node.prefix a.node.prefix = Begins-both b.node.prefix a.node.prefix n.node.prefix b_n a_n le in
      elim (placed.leads m p b a hb ha b_a) [
        | inl e ↦ e
        | inr on ↦
            let l = onward t root s placed shows m b a.node.prefix hb on in
            let first : length b.node.prefix < length on.node.node.prefix = l.0 in
            let second : length on.node.node.prefix ≤ length a.node.prefix = l.1 in
            let below : length b.node.prefix < length a.node.prefix = omega arith in
            let byte : byte_at b a.node.prefix ≡ y = get_or-begins a.node.prefix n.node.prefix (length b.node.prefix) a_n below ∙ byte_after b.node.prefix n.node.prefix y begins_b in
            let there : entry b y ≡ Some (below_at on.slot) = subst (λ z. entry b z ≡ Some (below_at on.slot)) byte on.entry_is in
            let slot : on.slot ≡ c = slots_same on.slot c (sym there ∙ eb) in
            let at : t c ≡ Some on.node = subst (λ z. t z ≡ Some on.node) slot on.linked.here in
            let same : on.node ≡ n = some_same on.node n (sym at ∙ hn.here) in
            let longer : length a.node.prefix < length n.node.prefix = longer-begins a.node.prefix n.node.prefix x begins_a in
            let equal : length on.node.node.prefix ≡ length n.node.prefix = ap (λ (z : PlacedNode M). length z.node.prefix) same in
            absurd (omega arith)
      ]

  -- a linked node is under one byte of one linked node
  pub one_parent : (m p c : ℕ) (b a n : PlacedNode M) (y x : ℕ) → IsLinked t m b → IsLinked t p a → IsLinked t c n → entry b y ≡ Some (below_at c) → entry a x ≡ Some (below_at c)
      → (m ≡ p) × (y ≡ x)
  one_parent m p c b a n y x hb ha hn eb ea =
      let slot : m ≡ p =
      elim (cases_lt (length a.node.prefix) (length b.node.prefix)) [
        | inl h ↦ sym (shorter_parent p m c a b n x y ha hb hn ea eb (omega (arith, h)))
        | inr h ↦ shorter_parent m p c b a n y x hb ha hn eb ea (omega (arith, h))
      ] in
      let same : b ≡ a = some_same b a (sym (subst (λ z. t z ≡ Some b) slot hb.here) ∙ ha.here) in
      let byte_b : get_or n.node.prefix (length b.node.prefix) 0 ≡ y = byte_after b.node.prefix n.node.prefix y (child_in m c b n y hb hn eb) in
      let byte_a : get_or n.node.prefix (length a.node.prefix) 0 ≡ x = byte_after a.node.prefix n.node.prefix x (child_in p c a n x ha hn ea) in
      (slot, sym byte_b ∙ (ap (λ (z : PlacedNode M). get_or n.node.prefix (length z.node.prefix) 0) same ∙ byte_a))

  -- a child of a linked node is a payload below seven bytes, or a node below fewer
  pub child_shape : (p byte : ℕ) (a : PlacedNode M) (child : Child M) → IsLinked t p a → entry a byte ≡ Some child → MayHave a.node.prefix child
  child_shape p byte a (Payload v) ha e = placed.leaf p a ha byte v e
  child_shape p byte a (below_at c) ha e =
      let g : IsBelow t a byte c = placed.below p a ha byte c e in
      let short : length g.node.node.prefix ≤ 7 = placed.short c g.node g.linked in
      let longer : length a.node.prefix < length g.node.node.prefix = longer-begins a.node.prefix g.node.node.prefix byte g.begins in
      omega arith

-- the sizes of a reader's nodes with one more in front, and with none
abbrev size_in : {M : Type 0} → Option (state.VersionedNode M) → ℕ
size_in None = 0
size_in (Some a) = stated_size a.node.form

sizes-answer : {M : Type 0} (b c : ℕ) (es : List (ℕ × state.VersionedNode M)) (k : ℕ) (o : Option (state.VersionedNode M)) → Rises b c es → k < b
    → reader.sizes_of (with_answer es k o) ≡ size_in o + reader.sizes_of es
sizes-answer b c es k None h less =
    let is : reader.sizes_of (without es k) ≡ reader.sizes_of es = ap reader.sizes_of (without-absent es k (lookup-below b c es k h less)) in omega arith
sizes-answer b c es k (Some a) h less = ap reader.sizes_of (put-below b c es k a h less)

module _ {M : Type 0} (lives : List (ℕ × Life)) where
  sizes-shown : (n : ℕ) (slots : List (Option (Stored M))) → reader.sizes_of (nodes_from lives n slots) ≡ stored_sizes slots
  sizes-shown n [] = refl
  sizes-shown n (None ∷ slots) =
      let none = sizes-answer (n + 1) (n + 1 + length slots) (nodes_from lives (n + 1) slots) n None (nodes-rise lives (n + 1) slots) (omega arith) in
      let rest : reader.sizes_of (nodes_from lives (n + 1) slots) ≡ stored_sizes slots = sizes-shown (n + 1) slots in omega arith
  sizes-shown n (Some x ∷ slots) =
      sizes-answer (n + 1) (n + 1 + length slots) (nodes_from lives (n + 1) slots) n (shown (placed_node (entry_at lives n) (Some x))) (nodes-rise lives (n + 1) slots) (omega arith)
      ∙ ap (λ size. stated_size x.node.form + size) (sizes-shown (n + 1) slots)

module _ {M : Type 0} where
  -- a call in flight is a record's
  pub record_at : (x : Option (Record M)) (pin : Option ℕ) (call : CallState M) → flight_in x pin ≡ Some call → (r : Record M) × (n : ℕ) × (x ≡ Some r) × (call ≡ flight n r)
  record_at None None call e = absurd (none_some call e)
  record_at None (Some n) call e = absurd (none_some call e)
  record_at (Some r) None call e = absurd (none_some call e)
  record_at (Some r) (Some n) call e = (r, n, refl, some_same call (flight n r) (sym e))

module _ {M : Type 0} (Granted : Type 0) (same : M → M → Bool) (w : World M) (sound : IsSoundWorld Granted same w) where
  -- what a call in flight knows
  known_of : (id : ℕ) (r : Record M) → record_of w id ≡ Some r → (pin : ℕ) × Facts Granted same (table_of w) w.root pin r
  known_of id r at = let p = some_of (pin_of w.pins id) (sound.pinned id r at) in (p.0, sound.facts id p.0 r at p.1)

  -- the node that it holds, and the one that it has made
  node_held : (id slot : ℕ) (r : Record M) → record_of w id ≡ Some r → IsTrue (is_in slot (held_at r.stage)) → StandsLocked (table_of w) slot
  node_held id slot r at mine = let f = known_of id r at in holds_at (table_of w) Granted same w.root f.0 r slot f.1 mine

  node_made : (id slot : ℕ) (r : Record M) → record_of w id ≡ Some r → IsTrue (is_in slot (made_at r.stage)) → StandsPrivate (table_of w) slot
  node_made id slot r at mine = let f = known_of id r at in made_at_slot (table_of w) Granted same w.root f.0 r slot f.1 mine

  -- the record of a call that a reader sees
  seen_call : (id : ℕ) (call : CallState M) → lookup (state_of w).calls id ≡ Some call → (r : Record M) × (pin : ℕ) × (record_of w id ≡ Some r) × (call ≡ flight pin r)
  seen_call id call e =
      let inside : (0 ≤ id) × (id < 2 ^ 64) = lookup-inside 0 (2 ^ 64) (state_of w).calls id call (flights_map w) e in
      record_at (record_of w id) (pin_of w.pins id) call (sym (shown_flight w id inside.1) ∙ e)

  pub holder : (id slot : ℕ) → Holds (state_of w) id slot → (r : Record M) × (record_of w id ≡ Some r) × IsTrue (is_in slot (held_at r.stage))
  holder id slot h =
      let f = seen_call id h.call h.in_flight in
      (f.0, f.2, subst (λ (c : CallState M). IsTrue (is_in slot c.held)) f.3 h.mine)

  pub maker : (id slot : ℕ) → HasMade (state_of w) id slot → (r : Record M) × (record_of w id ≡ Some r) × IsTrue (is_in slot (made_at r.stage))
  maker id slot h =
      let f = seen_call id h.call h.in_flight in
      (f.0, f.2, subst (λ (c : CallState M). IsTrue (is_in slot c.made)) f.3 h.mine)

  -- and the other way round
  shown_call : (id : ℕ) (r : Record M) → id < 2 ^ 64 → record_of w id ≡ Some r → (pin : ℕ) × (lookup (state_of w).calls id ≡ Some (flight pin r))
  shown_call id r small at =
      let p = some_of (pin_of w.pins id) (sound.pinned id r at) in
      (p.0, shown_flight w id small ∙ ap (λ x. flight_in x (pin_of w.pins id)) at ∙ ap (flight_in (Some r)) p.1)

  pub holds_shown : (id slot : ℕ) (r : Record M) → id < 2 ^ 64 → record_of w id ≡ Some r → IsTrue (is_in slot (held_at r.stage)) → Holds (state_of w) id slot
  holds_shown id slot r small at mine = let f = shown_call id r small at in record { call = flight f.0 r; in_flight = f.1; mine = mine }

  pub made_shown : (id slot : ℕ) (r : Record M) → id < 2 ^ 64 → record_of w id ≡ Some r → IsTrue (is_in slot (made_at r.stage)) → HasMade (state_of w) id slot
  made_shown id slot r small at mine = let f = shown_call id r small at in record { call = flight f.0 r; in_flight = f.1; mine = mine }

  one_holder : (i j slot : ℕ) (r q : Record M) → record_of w i ≡ Some r → record_of w j ≡ Some q → Holding r.stage slot → Holding q.stage slot → i ≡ j
  one_holder i j slot r q a b x y =
      elim (eqb_tells i j) [
        | inl e ↦ e.1
        | inr off ↦ absurd (sound.apart i j slot r q a b off.1 x y)
      ]

  held_once : (i j slot : ℕ) → Holds (state_of w) i slot → Holds (state_of w) j slot → i ≡ j
  held_once i j slot hi hj =
      let a = holder i slot hi in
      let b = holder j slot hj in
      one_holder i j slot a.0 b.0 a.1 b.1 (inl a.2) (inl b.2)

  made_once : (i j slot : ℕ) → HasMade (state_of w) i slot → HasMade (state_of w) j slot → i ≡ j
  made_once i j slot hi hj =
      let a = maker i slot hi in
      let b = maker j slot hj in
      one_holder i j slot a.0 b.0 a.1 b.1 (inr a.2) (inr b.2)

  -- a slot that a reader sees is a node's
  pub node_seen : (slot : ℕ) (a : state.VersionedNode M) → lookup (state_of w).nodes slot ≡ Some a → (n : PlacedNode M) × (table_of w slot ≡ Some n) × (a ≡ one n)
  node_seen slot a h = shown_at (table_of w slot) a (sym (shown_node w slot) ∙ h)

  pub linked_seen : (slot : ℕ) (a : state.VersionedNode M) → Reaches (state_of w) slot → lookup (state_of w).nodes slot ≡ Some a → (n : PlacedNode M) × IsLinked (table_of w) slot n × (a ≡ one n)
  linked_seen slot a r h =
      let f = reaches_linked (table_of w) w.root (state_of w) sound.placed (states.shows w) slot r in
      let x = node_seen slot a h in
      (f.0, f.1, x.2 ∙ ap one (some_same x.0 f.0 (sym x.1 ∙ f.1.here)))

  pub entry_seen : (slot byte : ℕ) (child : Child M) (e : HasEntry (state_of w) slot byte child)
      → (n : PlacedNode M) × IsLinked (table_of w) slot n × (entry n byte ≡ Some child) × (e.above.node.prefix ≡ n.node.prefix)
  entry_seen slot byte child e =
      let f = linked_seen slot e.above e.reaches e.here in
      (f.0, f.1, subst (λ (z : state.VersionedNode M). lookup z.node.children byte ≡ Some child) f.2 e.entry, ap (λ (z : state.VersionedNode M). z.node.prefix) f.2)

  holds_locked : (slot : ℕ) (n : PlacedNode M) → table_of w slot ≡ Some n → (id : ℕ) → Holds (state_of w) id slot → (lifetime n.lifetime ≡ published) × IsLocked n.word × (IsObsolete n.word → ⊥)
  holds_locked slot n at id h =
      let f = holder id slot h in
      let k = node_held id slot f.0 f.1 f.2 in
      subst (λ (z : PlacedNode M). (lifetime z.lifetime ≡ published) × IsLocked z.word × (IsObsolete z.word → ⊥)) (some_same k.node n (sym k.here ∙ at)) (k.public, k.locked, k.live)

  made_free : (slot : ℕ) (n : PlacedNode M) → table_of w slot ≡ Some n → (id : ℕ) (r : Record M) → record_of w id ≡ Some r → IsTrue (is_in slot (made_at r.stage)) → (n.lifetime ≡ is_private) × (n.word ≡ 0)
  made_free slot n at id r is mine =
      let k = node_made id slot r is mine in
      subst (λ (z : PlacedNode M). (z.lifetime ≡ is_private) × (z.word ≡ 0)) (some_same k.node n (sym k.here ∙ at)) (k.lifetime, k.word)

  -- what a node and the calls that hold it imply about one another
  kept_seen : (slot : ℕ) (n : PlacedNode M) → table_of w slot ≡ Some n → AgreesWithHolders (state_of w) slot (one n)
  kept_seen slot n at =
      let p = sound.placed in
      record {
        reached = λ reach.
            let f = reaches_linked (table_of w) w.root (state_of w) p (states.shows w) slot reach in
            ap lifetime (ap (λ (z : PlacedNode M). z.lifetime) (some_same n f.0 (sym at ∙ f.1.here)) ∙ f.1.lifetime);
        free = λ shown_so free.
            elim (p.free slot n at free) [
              | inl e ↦ linked_reaches (table_of w) w.root (state_of w) p (states.shows w) slot n (record { here = at; lifetime = e })
              | inr e ↦ absurd (not_yet_published (sym (ap lifetime e) ∙ shown_so))
            ];
        obsolete_locked = p.locked slot n at;
        obsolete_retired = λ o. let r = (p.obsolete slot n at).0 o in (r.0, ap lifetime r.1);
        retired_obsolete = λ stamp e. (p.obsolete slot n at).1 (stamp, standing_retired n.lifetime stamp e);
        held = λ locked used.
            let h = sound.held slot (record { node = n; here = at; why = inr (locked, used) }) in
            elim h.3 [
              | inl mine ↦ (h.0, holds_shown h.0 slot h.1 (sound.numbered h.0 h.1 h.2) h.2 mine)
              | inr mine ↦ absurd (locked_word n.word (made_free slot n at h.0 h.1 h.2 mine).1 locked)
            ];
        holds = holds_locked slot n at;
        made = λ e.
            let h = sound.held slot (record { node = n; here = at; why = inl (standing_private n.lifetime e) }) in
            elim h.3 [
              | inl mine ↦
                  let k = holds_locked slot n at h.0 (holds_shown h.0 slot h.1 (sound.numbered h.0 h.1 h.2) h.2 mine) in
                  absurd (not_yet_published (sym e ∙ k.0))
              | inr mine ↦ (h.0, made_shown h.0 slot h.1 (sound.numbered h.0 h.1 h.2) h.2 mine)
            ];
      }

  made_seen : (id slot : ℕ) → HasMade (state_of w) id slot → (a : TableNode M) × (lookup (state_of w).nodes slot ≡ Some (unlinked a))
  made_seen id slot h =
      let f = maker id slot h in
      let k = node_made id slot f.0 f.1 f.2 in
      (k.node.node, shown_node w slot ∙ ap shown k.here ∙ unlinked_is k.node k.lifetime k.word)
    where
      unlinked_is : (n : PlacedNode M) → n.lifetime ≡ is_private → n.word ≡ 0 → Some (one n) ≡ Some (unlinked n.node)
      unlinked_is n current word = rw (current, word) refl

  held_seen : (id slot : ℕ) → Holds (state_of w) id slot → IsSome (lookup (state_of w).nodes slot)
  held_seen id slot h =
      let f = holder id slot h in
      let k = node_held id slot f.0 f.1 f.2 in
      subst IsSome (sym (shown_node w slot ∙ ap shown k.here)) refl

  -- A SOUND INSIDE IS WELL FORMED
  pub well_formed : IsWellFormed (state_of w)
  well_formed =
      let p = sound.placed in
      record {
        nodes = nodes_narrow w sound.narrow;
        calls = flights_map w;
        root = one p.top;
        root_here = shown_node w w.root ∙ ap shown p.top_linked.here;
        root_form = p.top_form;
        root_prefix = p.top_prefix;
        shape = λ slot byte child e.
            let f = entry_seen slot byte child e in
            subst (λ (q : List ℕ). MayHave q child) (sym f.3) (child_shape (table_of w) w.root (state_of w) p (states.shows w) slot byte f.0 child f.1 f.2);
        below = λ slot byte below e.
            let f = entry_seen slot byte (below_at below) e in
            let g : IsBelow (table_of w) f.0 byte below = p.below slot f.0 f.1 byte below f.2 in
            (one g.node, shown_node w below ∙ ap shown g.linked.here, subst (λ (q : List ℕ). Begins (q ++ byte ∷ []) g.node.node.prefix) (sym f.3) g.begins);
        one_way = λ i j x y below ei ej.
            let f = entry_seen i x (below_at below) ei in
            let g = entry_seen j y (below_at below) ej in
            let child : IsBelow (table_of w) f.0 x below = p.below i f.0 f.1 x below f.2 in
            one_parent (table_of w) w.root (state_of w) p (states.shows w) i j below f.0 g.0 child.node x y f.1 g.1 child.linked f.2 g.2;
        none_above_root = λ slot byte e.
            let f = entry_seen slot byte (below_at w.root) e in
            let child : IsBelow (table_of w) f.0 byte w.root = p.below slot f.0 f.1 byte w.root f.2 in
            let same : child.node ≡ p.top = some_same child.node p.top (sym child.linked.here ∙ p.top_linked.here) in
            let longer : length f.0.node.prefix < length child.node.node.prefix = longer-begins f.0.node.prefix child.node.node.prefix byte child.begins in
            let none : length child.node.node.prefix ≡ 0 = ap (λ (z : PlacedNode M). length z.node.prefix) same ∙ ap length p.top_prefix in
            absurd (omega arith);
        kept = λ slot a here. let x = node_seen slot a here in subst (AgreesWithHolders (state_of w) slot) (sym x.2) (kept_seen slot x.0 x.1);
        held = held_seen;
        made = made_seen;
        held_once = held_once;
        made_once = made_once;
        charged = subst (Covers w.charge) (sym (sizes-shown w.pins.slots 0 w.slots)) sound.charged;
        counted = sound.counted;
      }
