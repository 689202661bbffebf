-- The linked nodes are a tree, and its pairs are the content.
use Rattle.std.proofs.Common.{◌≡◌, ℕ, zero, suc, ◌+◌, ◌-◌, ◌≤◌, List, [], ◌∷◌, ◌++◌, length, slice_index_or, Option, Some, None, ◌⊎◌, inl, inr, refl, ap, sym, subst, ◌∙◌, arith}
use Rattle.std.proofs.lemmas.Bool.{eq-eqb, ne_eqb, cases_eq}
use Rattle.spec_map.specs.Map.{Pairs, lookup, Rises}
use Rattle.spec_map.proofs.MapLaws.{lookup-next}
use Rattle.spec_node.specs.Key.{Begins, AreBytes, low, key_number}
use Rattle.spec_node.specs.TableNode.{TableNode, Child}
use Rattle.node_table.specs.Table.{node_at, pairs_in, pairs_under, pairs_of, pairs_at, IsChild, AreChildren, IsTree, IsSubtree}
use Rattle.node_table.specs.inner.Kinds.{mapped}
use Rattle.spec_node.specs.declared.child.Child.TheVariants.{Payload, Node as below_at}
use Rattle.node_table.proofs.TableLaws.{tree_rises, open_subtree, IsChild-found, lookup-at_payload, lookup-at_node}
use Rattle.spec_olc.specs.Calls.{bytes_of}
use Rattle.spec_olc.specs.Content.{Reaches, at_root, by_child, IsStoredAt, IsContent}
use Rattle.spec_olc.specs.State.{State}
use Rattle.olc_words.specs.Epoch.{entry_at}
use Rattle.olc_words.specs.declared.epoch.Life.{Life}
use Rattle.olc_state.specs.declared.stage.Stored.{Stored}
use Rattle.olc_state.specs.inner.Tables.{byte_at, IsLinked, IsBelow, IsPlaced, Keeps}
use Rattle.olc_state.specs.inner.Meant.{meant_slots}
use Rattle.olc_state.specs.inner.Turns.{ShowsNodes}
use Rattle.olc_state.specs.inner.Walks.{nodes_on, meant_nodes, IsTop, AddsPairs}
use Rattle.olc_state.specs.inner.World.{PlacedNode, NodeMap, placed_node, table_on}
use Rattle.olc_state.proofs.Entries.{lookup-first}
use Rattle.olc_state.proofs.Options.{none_some, some_same}
use Rattle.olc_state.proofs.Reaching.{one, bytes-of_key, key-of_bytes, lookup-inside, seen_at, reaches_linked, stands_keeps}
use Rattle.olc_state.proofs.WalkLaws.{stored_node, node_on}
use Rattle.olc_state.proofs.Ways.{longer-begins, toward_leaf, leaf_entry}

module _ {M : Type 0} where
  -- the node of a slot, without its word and its place
  abbrev node_in : Option (PlacedNode M) → Option (TableNode M)
  node_in None = None
  node_in (Some a) = Some a.node

  nodes_agree : (slots : List (Option (Stored M))) (lives : List (ℕ × Life)) (s : ℕ) → node_at (nodes_on slots) s ≡ node_in (table_on slots lives s)
  nodes_agree slots lives s = node_on slots s ∙ same (slice_index_or slots s None)
    where
      same : (x : Option (Stored M)) → stored_node x ≡ node_in (placed_node (entry_at lives s) x)
      same None = refl
      same (Some n) = refl

  -- what is found in two lists is found in one of them
  found_in : (xs ys : Pairs M) (key : ℕ) (v : M) → lookup (xs ++ ys) key ≡ Some v → (lookup xs key ≡ Some v) ⊎ (lookup ys key ≡ Some v)
  found_in [] ys key v e = inr e
  found_in (x ∷ xs) ys key v e =
      elim (cases_eq x.0 key) [
        | inl same ↦ let here : Some x.1 ≡ Some v = rw (eq-eqb x.0 key same) at e in inl (rw (eq-eqb x.0 key same) here)
        | inr off ↦
            elim (found_in xs ys key v (rw (ne_eqb x.0 key off) at e)) [
              | inl l ↦ inl (rw (ne_eqb x.0 key off) l)
              | inr r ↦ inr r
            ]
      ]

  -- all children are, if each that is found is
  children_are : (below : List ℕ → ℕ → Type 0) (p : List ℕ) (d : ℕ) (es : List (ℕ × Child M)) → Rises d 256 es
      → ((byte : ℕ) (c : Child M) → lookup es byte ≡ Some c → IsChild below p byte c) → AreChildren below p es
  children_are below p d [] rises h = tt
  children_are below p d (e ∷ es) rises h = (
    h e.0 e.1 (lookup-first e es),
    children_are below p (e.0 + 1) es rises.2 (λ byte c found.
        let inside = lookup-inside (e.0 + 1) 256 es byte c rises.2 found in
        h byte c (lookup-next e es byte (omega (arith, inside.0)) ∙ found)),
  )

module _ {M : Type 0} (t : NodeMap M) (root : ℕ) (placed : IsPlaced t root) (nodes : List (Option (TableNode M))) (agree : (s : ℕ) → node_at nodes s ≡ node_in (t s)) where
  -- a child of a linked node is one of a tree, where the linked nodes below are the tops of trees
  placed_child : (levels s : ℕ) (a : PlacedNode M) → IsLinked t s a → 8 ≤ length a.node.prefix + suc levels
      → ((q : List ℕ) (j : ℕ) (b : PlacedNode M) → IsLinked t j b → Begins q b.node.prefix → 8 ≤ length b.node.prefix + levels → IsTree nodes levels q j)
      → (byte : ℕ) (c : Child M) → lookup a.node.children byte ≡ Some c → IsChild (λ p j. IsTree nodes levels p j) a.node.prefix byte c
  placed_child levels s a ha enough below byte (Payload v) found = placed.leaf s a ha byte v found
  placed_child levels s a ha enough below byte (below_at j) found =
      let b : IsBelow t a byte j = placed.below s a ha byte j found in
      let longer = longer-begins a.node.prefix b.node.node.prefix byte b.begins in
      below (a.node.prefix ++ byte ∷ []) j b.node b.linked b.begins (omega (arith, longer, enough))

  -- a linked node is the top of a tree, with a level for each byte that its prefix leaves
  placed_tree : (levels : ℕ) (q : List ℕ) (s : ℕ) (a : PlacedNode M) → IsLinked t s a → Begins q a.node.prefix → 8 ≤ length a.node.prefix + levels → IsTree nodes levels q s
  placed_tree zero q s a ha begins enough = let short = placed.short s a ha in absurd (omega arith)
  placed_tree (suc levels) q s a ha begins enough =
      record {
        node = a.node;
        here = agree s ∙ ap node_in ha.here;
        begins = begins;
        sound = record { ordered = placed.ordered s a ha; bytes = placed.bytes s a ha; short = placed.short s a ha };
        children = children_are (λ p j. IsTree nodes levels p j) a.node.prefix 0 a.node.children (placed.ordered s a ha) (placed_child levels s a ha enough (placed_tree levels));
      }

  pub root_tree : IsTree nodes 8 [] root
  root_tree = placed_tree 8 [] root placed.top placed.top_linked (record { holds = refl }) (omega arith)

  -- a pair that a linked leaf keeps is found below each linked node on the key's way
  kept_found : (key : List ℕ) → AreBytes key → length key ≡ 8 → (levels s : ℕ) (a : PlacedNode M) → IsLinked t s a → IsSubtree nodes levels s → Begins a.node.prefix key
      → (v : M) → Keeps t key v → lookup (pairs_at nodes levels s) (key_number key) ≡ Some v
  kept_found key bytes full zero s a ha tree begins v h = absurd tree.tree
  kept_found key bytes full (suc levels) s a ha tree begins v h =
      let o = open_subtree nodes (suc levels) s a.node tree (sym (agree s ∙ ap node_in ha.here)) in
      elim (toward_leaf t root key placed s h.slot a h.leaf ha h.linked begins h.begins h.full) [
        | inl e ↦ lookup-at_payload nodes (suc levels) s a.node o a.node.prefix key refl bytes full begins v (sym (leaf_entry t root key placed s a v h ha e))
        | inr on ↦
            let same : o.less ≡ levels = omega (arith, o.is) in
            let less : suc levels - 1 ≡ levels = omega arith in
            let child : IsTree nodes o.less (a.node.prefix ++ byte_at a key ∷ []) on.slot =
            IsChild-found nodes o.less a.node.prefix a.node.children (byte_at a key) (below_at on.slot) o.children on.entry_is in
            let tree_below : IsSubtree nodes levels on.slot =
            record { above = a.node.prefix ++ byte_at a key ∷ []; tree = subst (λ l. IsTree nodes l (a.node.prefix ++ byte_at a key ∷ []) on.slot) same child } in
            lookup-at_node nodes (suc levels) s a.node o a.node.prefix key refl bytes full begins on.slot (sym on.entry_is)
            ∙ ap (λ l. lookup (pairs_at nodes l on.slot) (key_number key)) less
            ∙ kept_found key bytes full levels on.slot on.node on.linked tree_below on.begins v h
      ]

  module _ (s : State M) (shows : ShowsNodes t root s) where
    module _ (levels key : ℕ) (v : M) (below : (j : ℕ) → Reaches s j → lookup (pairs_at nodes levels j) key ≡ Some v → IsStoredAt s key v)
        (slot : ℕ) (reach : Reaches s slot) where
      under_stands : (a : PlacedNode M) → t slot ≡ Some a → (byte : ℕ) (c : Child M) → lookup a.node.children byte ≡ Some c
          → lookup (pairs_under (λ j. pairs_at nodes levels j) a.node.prefix byte c) key ≡ Some v → IsStoredAt s key v
      under_stands a here byte (Payload u) is e =
          let k : ℕ = low (a.node.prefix ++ byte ∷ []) in
          elim (cases_eq k key) [
            | inl same ↦
                let both : Some u ≡ Some v = rw (eq-eqb k key same) at e in
                let value : u ≡ v = cc in
                record {
                  slot = slot;
                  byte = byte;
                  payload = record {
                    above = one a;
                    reaches = reach;
                    here = seen_at t root s shows slot a here;
                    entry = is ∙ ap (λ z. Some (Payload z)) value;
                  };
                  key_is = sym same;
                }
            | inr off ↦ absurd (none_some v (rw (ne_eqb k key off) at e))
          ]
      under_stands a here byte (below_at j) is e = below j (by_child slot byte (one a) reach (seen_at t root s shows slot a here) is) e

      among_stands : (a : PlacedNode M) → t slot ≡ Some a → (d : ℕ) (es : List (ℕ × Child M)) → Rises d 256 es → ((byte : ℕ) (c : Child M) → lookup es byte ≡ Some c → lookup a.node.children byte ≡ Some c)
          → lookup (pairs_of (λ j. pairs_at nodes levels j) a.node.prefix es) key ≡ Some v → IsStoredAt s key v
      among_stands a here d [] rises of e = absurd (none_some v e)
      among_stands a here d (x ∷ es) rises of e =
          elim (found_in (pairs_under (λ j. pairs_at nodes levels j) a.node.prefix x.0 x.1) (pairs_of (λ j. pairs_at nodes levels j) a.node.prefix es) key v e) [
            | inl first ↦ under_stands a here x.0 x.1 (of x.0 x.1 (lookup-first x es)) first
            | inr later ↦
                among_stands a here (x.0 + 1) es rises.2 (λ byte c is.
                let inside = lookup-inside (x.0 + 1) 256 es byte c rises.2 is in
                of byte c (lookup-next x es byte (omega (arith, inside.0)) ∙ is)) later
          ]

      in_stands : (x : Option (PlacedNode M)) → t slot ≡ x → lookup (pairs_in (λ j. pairs_at nodes levels j) (node_in x)) key ≡ Some v → IsStoredAt s key v
      in_stands None here e = absurd (none_some v e)
      in_stands (Some a) here e =
          let f = reaches_linked t root s placed shows slot reach in
          let same : f.0 ≡ a = some_same f.0 a (sym f.1.here ∙ here) in
          let ordered : Rises 0 256 a.node.children = subst (λ (z : PlacedNode M). Rises 0 256 z.node.children) same (placed.ordered slot f.0 f.1) in
          among_stands a here 0 a.node.children ordered (λ byte c is. is) e

    -- a pair that is found below a reachable node is stored
    found_stands : (levels key : ℕ) (v : M) (slot : ℕ) → Reaches s slot → lookup (pairs_at nodes levels slot) key ≡ Some v → IsStoredAt s key v
    found_stands zero key v slot reach found = absurd (none_some v found)
    found_stands (suc levels) key v slot reach found =
        in_stands levels key v (found_stands levels key v) slot reach (t slot) refl (ap (λ x. lookup (pairs_in (λ j. pairs_at nodes levels j) x) key) (sym (agree slot)) ∙ found)

    -- THE PAIRS OF THE TREE ARE THE CONTENT
    pub tree_content : IsContent s (pairs_at nodes 8 root)
    tree_content = record {
      map = tree_rises nodes 8 [] root root_tree;
      pairs = λ key v. (
        (λ e. found_stands 8 key v root (subst (Reaches s) shows.root_is at_root) e),
        (λ h.
            let kept = stands_keeps t root s placed shows key v h in
            let tree : IsSubtree nodes 8 root = record { above = []; tree = root_tree } in
            let begins : Begins placed.top.node.prefix (bytes_of key) = subst (λ (p : List ℕ). Begins p (bytes_of key)) (sym placed.top_prefix) (record { holds = refl }) in
            ap (λ k. lookup (pairs_at nodes 8 root) k) (sym (key-of_bytes key kept.1))
            ∙ kept_found (bytes_of key) (bytes-of_key key) refl 8 root placed.top placed.top_linked tree begins v kept.0),
      );
    }

module _ {P M : Type 0} (meaning : P → M) (slots : List (Option (Stored P))) (lives : List (ℕ × Life)) (root : ℕ) (placed : IsPlaced (table_on (meant_slots meaning slots) lives) root) where
  pub the_tree : IsTree (meant_nodes meaning slots) 8 [] root
  the_tree = root_tree (table_on (meant_slots meaning slots) lives) root placed (meant_nodes meaning slots) (nodes_agree (meant_slots meaning slots) lives)

  -- the root's slot is the top of a tree
  pub root_top : IsTop meaning slots root
  root_top = (8, record { above = []; tree = the_tree })

  -- the pairs of the tree are the content of each state that shows the nodes
  pub the_content : (s : State M) → ShowsNodes (table_on (meant_slots meaning slots) lives) root s → IsContent s (pairs_at (meant_nodes meaning slots) 8 root)
  the_content s shows =
      tree_content (table_on (meant_slots meaning slots) lives) root placed (meant_nodes meaning slots) (nodes_agree (meant_slots meaning slots) lives) s shows

  -- THERE IS A CONTENT, whatever state shows the nodes
  pub placed_content : (s : State M) → ShowsNodes (table_on (meant_slots meaning slots) lives) root s → (m : Pairs M) × IsContent s m
  placed_content s shows = (pairs_at (meant_nodes meaning slots) 8 root, the_content s shows)

  -- a list that got its pairs, and had none, is the content
  pub added_content : (old new : Pairs P) → old ≡ [] → AddsPairs meaning slots root old new → (s : State M) → ShowsNodes (table_on (meant_slots meaning slots) lives) root s → IsContent s (mapped meaning new)
  added_content old new none adds s shows =
      let all : mapped meaning new ≡ pairs_at (meant_nodes meaning slots) 8 root =
      adds 7 (record { above = []; tree = the_tree }) ∙ ap (λ m. mapped meaning m ++ pairs_at (meant_nodes meaning slots) 8 root) none in
      subst (IsContent s) (sym all)
      (tree_content (table_on (meant_slots meaning slots) lives) root placed (meant_nodes meaning slots) (nodes_agree (meant_slots meaning slots) lives) s shows)
