-- What the meant table has in the slot where a stored node changed.
use Rattle.std.proofs.Common.{◌≡◌, ◌≢◌, ℕ, ◌+◌, false, is_some, length, IsSome, List, Option, Some, None, inl, inr, refl, sym, subst, ap, ◌∙◌, slice_index_or, arith}
use Rattle.std.proofs.lemmas.Bool.Decides.{eqb_tells}
use Rattle.slab.proofs.SlabLemmas.{Updates-with_value}
use Rattle.slab.specs.Slab.{get, with_value, Updates}
use Rattle.node_base.specs.Form.{Fits, stated_size}
use Rattle.spec_map.specs.Map.{lookup, put, without}
use Rattle.node_table.proofs.KindLaws.{length-mapped, lookup-mapped_none, put-mapped, without-mapped}
use Rattle.spec_node.specs.TableNode.{TableNode, Child, seen}
use Rattle.spec_node.specs.declared.child.ChildRef.{ChildRef}
use Rattle.spec_olc.specs.Meaning.{child_of, in_some}
use Rattle.olc_words.specs.Epoch.{ChangesLife, admitted, entry_at, life_of}
use Rattle.olc_words.specs.declared.epoch.Life.{Life}
use Rattle.olc_words.specs.declared.epoch.Life.TheVariants.{InUse}
use Rattle.olc_state.specs.declared.stage.Stored.{Stored}
use Rattle.olc_state.specs.declared.store.Store.{Store}
use Rattle.olc_state.specs.inner.Facts.{stored_sizes, AllAdmitted, IsAdmitted}
use Rattle.olc_state.specs.inner.Meant.{meant_node, meant_stored, meant_slots, meant_table}
use Rattle.olc_state.specs.inner.Slots.{SetsNode}
use Rattle.olc_state.specs.inner.World.{PlacedNode, NodeMap, entry, lifetime_of, placed_node, table_on}
use Rattle.olc_state.proofs.Entries.{lookup-mapped}
use Rattle.olc_state.proofs.Options.{some_same}
use Rattle.olc_state.proofs.Sizes.{size_at, size_in, sizes_more, sizes_same}
use Rattle.olc_state.proofs.States.{meant_slot}

meant_some : {P M : Type 0} (f : P → M) (x : Option P) → IsSome (in_some f x) → IsSome x
meant_some f None h = h
meant_some f (Some v) h = refl

module _ {P M : Type 0} (meaning : P → M) (lives : List (ℕ × Life)) where
  -- the node that a stored one is in its slot
  abbrev pub stored_as : ℕ → Stored P → PlacedNode M
  stored_as slot n = record {
    word = n.word;
    node = (meant_stored meaning n).node;
    lifetime = lifetime_of n.place (entry_at lives slot);
  }

  pub table_has : (slots : List (Option (Stored P))) (slot : ℕ) (n : Stored P) → slice_index_or slots slot None ≡ Some n → table_on (meant_slots meaning slots) lives slot ≡ Some (stored_as slot n)
  table_has slots slot n here = ap (placed_node (entry_at lives slot)) (meant_slot meaning slots slot ∙ ap (λ x. in_some (meant_stored meaning) x) here)

  pub table_same : (slots slots' : List (Option (Stored P))) (slot : ℕ) → slice_index_or slots' slot None ≡ slice_index_or slots slot None
      → table_on (meant_slots meaning slots') lives slot ≡ table_on (meant_slots meaning slots) lives slot
  table_same slots slots' slot same =
      ap (placed_node (entry_at lives slot)) (meant_slot meaning slots' slot ∙ (ap (λ x. in_some (meant_stored meaning) x) same ∙ sym (meant_slot meaning slots slot)))

-- a node of the same form takes another's place
pub sizes_kept : {P : Type 0} (slots slots' : List (Option (Stored P))) (slot : ℕ) (n m : Stored P) → slice_index_or slots slot None ≡ Some n → slice_index_or slots' slot None ≡ Some m
    → m.node.form ≡ n.node.form → ((o : ℕ) → o ≢ slot → slice_index_or slots' o None ≡ slice_index_or slots o None) → stored_sizes slots' ≡ stored_sizes slots
sizes_kept slots slots' slot n m here after form others =
    sizes_same slots slots'
    (λ o. elim (eqb_tells o slot) [
      | inl e ↦
          subst (λ z. size_at slots' z ≡ size_at slots z) (sym e.1)
          (ap size_in after ∙ (ap (λ f. stated_size f) form ∙ sym (ap size_in here)))
      | inr off ↦ ap size_in (others o off.1)
    ])

-- a slot whose stored node is replaced
module _ {P M : Type 0} (meaning : P → M) (store : Store P) (slot : ℕ) (n : Stored P) (here : get store.nodes slot ≡ Some n) where
  abbrev pub with_stored : Stored P → Store P
  with_stored m = record store { nodes = with_value store.nodes slot m }

  pub updates : (m : Stored P) → Updates store.nodes (with_value store.nodes slot m) slot (Some m)
  updates m = Updates-with_value store.nodes slot m (subst (λ x. IsSome x) (sym here) refl)

  -- this was the node in the slot
  pub stood : (a : PlacedNode M) → meant_table meaning store slot ≡ Some a → a ≡ stored_as meaning store.pins.slots slot n
  stood a found = some_same a _ (sym found ∙ table_has meaning store.pins.slots store.nodes.slots slot n here)

  pub sets_stored : (m : Stored P) → SetsNode meaning store (with_stored m) slot (Some (stored_as meaning store.pins.slots slot m))
  sets_stored m = record {
    here = table_has meaning store.pins.slots (with_value store.nodes slot m).slots slot m (updates m).changed;
    others = λ o off. table_same meaning store.pins.slots store.nodes.slots (with_value store.nodes slot m).slots o ((updates m).others o off);
    root = refl;
    seats = refl;
    count = refl;
  }

  pub sizes_stored : (m : Stored P) → m.node.form ≡ n.node.form → stored_sizes (with_value store.nodes slot m).slots ≡ stored_sizes store.nodes.slots
  sizes_stored m form = sizes_kept store.nodes.slots (with_value store.nodes slot m).slots slot n m here (updates m).changed form (updates m).others

  -- a child is put under a byte
  abbrev pub with_child : PlacedNode M → ℕ → Child M → PlacedNode M
  with_child a byte child = record a { node = record a.node { children = put a.node.children byte child } }

  pub sets_child : (byte : ℕ) (child : Child P) (b : TableNode P) → b ≡ record n.node { children = put n.node.children byte child }
      → (a : PlacedNode M) → meant_table meaning store slot ≡ Some a
      → SetsNode meaning store (with_stored (record n { node = b })) slot (Some (with_child a byte (child_of meaning child)))
  sets_child byte child b is a found =
      let was : PlacedNode M = stored_as meaning store.pins.slots slot n in
      let now : stored_as meaning store.pins.slots slot (record n { node = b }) ≡ with_child a byte (child_of meaning child) =
      ap (λ (x : TableNode P). record was { node = meant_node meaning x }) is
      ∙ ap (λ (es : List (ℕ × Child M)). record was { node = record was.node { children = es } }) (put-mapped (child_of meaning) n.node.children byte child)
      ∙ ap (λ (x : PlacedNode M). with_child x byte (child_of meaning child)) (sym (stood a found)) in
      subst (λ (x : PlacedNode M). SetsNode meaning store (with_stored (record n { node = b })) slot (Some x)) now (sets_stored (record n { node = b }))

  -- a child is taken from it
  abbrev pub without_child : PlacedNode M → ℕ → PlacedNode M
  without_child a byte = record a { node = record a.node { children = without a.node.children byte } }

  pub sets_taken : (byte : ℕ) (b : TableNode P) → b ≡ record n.node { children = without n.node.children byte }
      → (a : PlacedNode M) → meant_table meaning store slot ≡ Some a
      → SetsNode meaning store (with_stored (record n { node = b })) slot (Some (without_child a byte))
  sets_taken byte b is a found =
      let was : PlacedNode M = stored_as meaning store.pins.slots slot n in
      let now : stored_as meaning store.pins.slots slot (record n { node = b }) ≡ without_child a byte =
      ap (λ (x : TableNode P). record was { node = meant_node meaning x }) is
      ∙ ap (λ (es : List (ℕ × Child M)). record was { node = record was.node { children = es } }) (without-mapped (child_of meaning) n.node.children byte)
      ∙ ap (λ (x : PlacedNode M). without_child x byte) (sym (stood a found)) in
      subst (λ (x : PlacedNode M). SetsNode meaning store (with_stored (record n { node = b })) slot (Some x)) now (sets_stored (record n { node = b }))

  pub sizes_taken : (byte : ℕ) (b : TableNode P) → b ≡ record n.node { children = without n.node.children byte }
      → stored_sizes (with_value store.nodes slot (record n { node = b })).slots ≡ stored_sizes store.nodes.slots
  sizes_taken byte b is = sizes_stored (record n { node = b }) (ap (λ (x : TableNode P). x.form) is)

  pub sizes_child : (byte : ℕ) (child : Child P) (b : TableNode P) → b ≡ record n.node { children = put n.node.children byte child }
      → stored_sizes (with_value store.nodes slot (record n { node = b })).slots ≡ stored_sizes store.nodes.slots
  sizes_child byte child b is = sizes_stored (record n { node = b }) (ap (λ (x : TableNode P). x.form) is)

  -- the previous child under the byte
  pub stood_under : (byte : ℕ) (a : PlacedNode M) → meant_table meaning store slot ≡ Some a → entry a byte ≡ in_some (child_of meaning) (lookup n.node.children byte)
  stood_under byte a found = ap (λ (x : PlacedNode M). entry x byte) (stood a found) ∙ lookup-mapped (child_of meaning) n.node.children byte

  -- a child that a reader sees there is there
  pub stands_under : (byte : ℕ) (a : PlacedNode M) → meant_table meaning store slot ≡ Some a → IsSome (entry a byte) → IsSome (lookup n.node.children byte)
  stands_under byte a found some = meant_some (child_of meaning) (lookup n.node.children byte) (subst (λ (x : Option (Child M)). IsSome x) (stood_under byte a found) some)

  pub has_room : (byte : ℕ) (a : PlacedNode M) → meant_table meaning store slot ≡ Some a → (lookup a.node.children byte ≡ None → Fits a.node.form (length a.node.children + 1))
      → lookup n.node.children byte ≡ None → Fits n.node.form (length n.node.children + 1)
  has_room byte a found room absent =
      let here = subst (λ (x : PlacedNode M). lookup x.node.children byte ≡ None → Fits x.node.form (length x.node.children + 1)) (stood a found) room in
      subst (λ k. Fits n.node.form (k + 1)) (length-mapped (child_of meaning) n.node.children) (here (lookup-mapped_none (child_of meaning) n.node.children byte absent))

-- nothing was seen there
pub seen_nothing : {P : Type 0} (r : Option (ChildRef P ℕ)) → false ≡ is_some r → seen r ≡ None
seen_nothing None e = refl
seen_nothing (Some x) e = absurd (cc)

-- what is admitted of a slot
pub at_slot : {M : Type 0} (t : NodeMap M) (lives : List (ℕ × Life)) (slot : ℕ) (o : Option (PlacedNode M)) → AllAdmitted t lives → t slot ≡ o → IsAdmitted o (entry_at lives slot)
at_slot t lives slot o all here = subst (λ x. IsAdmitted x (entry_at lives slot)) here (all slot)

-- a slot's stored node changes, and whether the slot is in use
module _ {P M : Type 0} (meaning : P → M) (old new : Store P) (slot : ℕ) (o : Option (Stored P)) (life : Option Life)
    (updates : Updates old.nodes new.nodes slot o) (changes : ChangesLife old.pins new.pins slot life) where
  abbrev pub now_there : Option (PlacedNode M)
  now_there = placed_node life (in_some (meant_stored meaning) o)

  pub changed_here : meant_table meaning new slot ≡ now_there
  changed_here =
      ap (λ x. placed_node x (slice_index_or (meant_slots meaning new.nodes.slots) slot None)) changes.here
      ∙ ap (placed_node life) (meant_slot meaning new.nodes.slots slot ∙ ap (λ x. in_some (meant_stored meaning) x) updates.changed)

  pub changed_others : (q : ℕ) → q ≢ slot → meant_table meaning new q ≡ meant_table meaning old q
  changed_others q off =
      ap (λ x. placed_node x (slice_index_or (meant_slots meaning new.nodes.slots) q None)) (changes.others q off)
      ∙ table_same meaning old.pins.slots old.nodes.slots new.nodes.slots q (updates.others q off)

  pub sets_both : new.root ≡ old.root → new.pins.count ≡ old.pins.count → SetsNode meaning old new slot now_there
  sets_both root count = record { here = changed_here; others = changed_others; root = root; seats = changes.seats; count = count }

  pub admitted_both : AllAdmitted (meant_table meaning old) old.pins.slots → IsAdmitted now_there life → AllAdmitted (meant_table meaning new) new.pins.slots
  admitted_both all here s =
      elim (eqb_tells s slot) [
        | inl e ↦
            subst (λ z. IsAdmitted (meant_table meaning new z) (entry_at new.pins.slots z)) (sym e.1)
            (subst (λ x. IsAdmitted x (entry_at new.pins.slots slot)) (sym changed_here) (subst (λ l. IsAdmitted now_there l) (sym changes.here) here))
        | inr off ↦
            subst (λ x. IsAdmitted x (entry_at new.pins.slots s)) (sym (changed_others s off.1))
            (subst (λ l. IsAdmitted (meant_table meaning old s) l) (sym (changes.others s off.1)) (all s))
      ]

-- the sizes before and after a node more
pub sizes_added : {P : Type 0} (slots slots' : List (Option (Stored P))) (slot : ℕ) (n : Stored P) → slice_index_or slots slot None ≡ None → slice_index_or slots' slot None ≡ Some n
    → ((o : ℕ) → o ≢ slot → slice_index_or slots' o None ≡ slice_index_or slots o None) → stored_sizes slots' ≡ stored_sizes slots + stated_size n.node.form
sizes_added slots slots' slot n none here others =
    let was : size_at slots slot ≡ 0 = ap size_in none in
    let is : size_at slots' slot ≡ stated_size n.node.form = ap size_in here in
    sizes_more slots slots' slot (stated_size n.node.form) (omega (arith, was, is)) (λ o off. ap size_in (others o off))

-- a slot without a node is admitted for one
module _ {P M : Type 0} (meaning : P → M) (old : Store P) (slot : ℕ) (vacant : get old.nodes slot ≡ None) (all : AllAdmitted (meant_table meaning old) old.pins.slots) where
  pub nothing_there : meant_table meaning old slot ≡ None
  nothing_there = ap (placed_node (entry_at old.pins.slots slot)) (meant_slot meaning old.nodes.slots slot ∙ ap (λ x. in_some (meant_stored meaning) x) vacant)

  pub newly_used : admitted (life_of old.pins slot) ≡ InUse
  newly_used = ap admitted (at_slot (meant_table meaning old) old.pins.slots slot None all nothing_there)
