-- What the steps of a removal require and leave, by what they say of the nodes that are seen.
use Rattle.std.proofs.Common.{◌≡◌, ℕ, zero, suc, ◌+◌, ◌<◌, List, [], ◌∷◌, length, get_or, map, Option, Some, None, IsSome, IsTrue, nat_eq, refl, ap, sym, subst, ◌∙◌, arith, inl, inr}
use Rattle.spec_node.specs.Key.{next_byte}
use Rattle.spec_node.specs.TableNode.{TableNode, Child}
use Rattle.node_table.specs.Table.{NodeTable, node_at, IsTree}
use Rattle.std.proofs.lemmas.Bool.{cases_eq, eqb-true}
use Rattle.spec_map.specs.Map.{lookup, without}
use Rattle.node_base.specs.declared.base_node.NodeType.TheVariants.{N4}
use Rattle.spec_node.specs.declared.child.Child.TheVariants.{Payload, Node}
use Rattle.node_table.proofs.NodesLaws.{none_below_seven}
use Rattle.node_table.proofs.TableLaws.{IsChild-found}
use Rattle.tree_path.specs.inner.Descent.{Halts, IsTrail, LeadsTo, PathTo, SeeksTo}
use Rattle.tree_path.specs.inner.Supply.{count, with_form}
use Rattle.tree_path.specs.declared.descent.Stop.TheVariants as stops
use Rattle.tree_path.proofs.PathEndLaws.{leads_kind}
use Rattle.tree_path.specs.declared.supply.FormCounts.{FormCounts}
use Rattle.tree_edit.specs.inner.Rise.{HasRisen, IsWholeBefore}
use Rattle.tree_edit.proofs.SpotLaws.{counted_there}
use Rattle.tree_edit.proofs.RiseLaws.{above_stays}
use Rattle.tree_edit.proofs.TidyLaws.{parent_is}
use Rattle.tree_links.specs.LeafCalls.{HasLeafAt, TakesPayload}
use Rattle.tree_links.specs.PairCalls.{LosesLeaf}
use Rattle.tree_links.specs.SeenTable.{leaf_of, name_of, name_under}
use Rattle.tree_links.specs.Seeks.{seen_at, seen_end, KnowsPair, KnowsPairAt}
use Rattle.tree_links.specs.declared.descent.LinkEnd.{LinkEnd}
use Rattle.tree_links.specs.declared.descent.LinkStop.TheVariants.{Leaf, Pair}
use Rattle.tree_edit.specs.inner.Lowers.{HasTaken}
use Rattle.tree_edit.proofs.AloneLaws.{pair_gone}
use Rattle.tree_edit.proofs.SettleLaws.{at_name}
use Rattle.tree_links.specs.LosesNode.{IsEmptyAt}
use Rattle.tree_links.specs.SameTree.{GoesOnAt}

pub is_one : (n : ℕ) → IsTrue (nat_eq n 1) → n ≡ 1
is_one n h = eqb-true n 1 h

no_children : {X : Type 0} (es : List X) → length es ≡ 0 → es ≡ []
no_children [] h = refl
no_children (e ∷ es) h = absurd (omega (arith, h))

module _ {P : Type 0} where
  pub empty_at : (s : NodeTable P) (i : ℕ) → IsSome (node_at s i) → ((n : TableNode P) → node_at s i ≡ Some n → length n.children ≡ 0) → IsEmptyAt s i
  empty_at s i some none = at (node_at s i) refl some
    where
      at : (x : Option (TableNode P)) → node_at s i ≡ x → IsSome x → IsEmptyAt s i
      at None e h = absurd (cc)
      at (Some n) e h = record { node = n; here = e; empty = no_children n.children (none n e) }

  -- the byte under which a path goes on
  pub goes_under : (s : NodeTable P) (root : ℕ) (key : List ℕ) (i byte : ℕ) (n : TableNode P) → GoesOnAt s root key i byte → node_at s i ≡ Some n → byte ≡ next_byte n.prefix key
  goes_under s root key i byte n on here =
      let both : Some on.node ≡ Some n = sym on.here ∙ here in
      let is : on.node ≡ n = cc in
      on.next ∙ ap (λ (m : TableNode P). next_byte m.prefix key) is

  -- a node that has one below is above the leaves
  pub parent_inner : (s : NodeTable P) (levels i : ℕ) (q : List ℕ) (h : IsTree s (suc levels) q i) (b j : ℕ) → lookup h.node.children b ≡ Some (Node j) → length h.node.prefix < 7
  parent_inner s levels i q h b j found =
      elim (cases_eq (length h.node.prefix) 7) [
        | inl seven ↦ absurd (none_below_seven s levels h.node.prefix b j seven (IsChild-found s levels h.node.prefix h.node.children b (Node j) h.children found))
        | inr other ↦ omega (arith, h.sound.short, other)
      ]

  module _ (s : NodeTable P) (root : ℕ) (key : List ℕ) (t : NodeTable P) (slot a : ℕ) (old new : FormCounts) (r : HasRisen s root key t slot (suc a) old new) where
    pub inner_above : (n : TableNode P) → node_at t r.path.parent ≡ Some n → length n.prefix < 7
    inner_above n here =
        let p = r.path in
        let still : node_at t p.parent ≡ Some p.tree.node = above_stays s key t r.levels r.q slot r.top r.left r.risen p.tree.node p.parent p.tree.here p.is in
        let both : Some p.tree.node ≡ Some n = sym still ∙ here in
        let is : p.tree.node ≡ n = cc in
        subst (λ (m : TableNode P). length m.prefix < 7) is (parent_inner s (suc r.levels) p.parent p.parent_q p.tree (next_byte p.tree.node.prefix key) slot p.found)

    -- the slot above is on the trail
    pub parent_named : (trail : List ℕ) (n : ℕ) → IsTrail s root key (map name_of trail) n → a < n → r.path.parent ≡ name_of (get_or trail a 0)
    parent_named trail n on less = parent_is s root key t slot old new (map name_of trail) n a on less r ∙ at_name trail a

  -- a leaf of one pair has its payload
  abbrev first_child : List (ℕ × Child P) → Option (Child P)
  first_child [] = None
  first_child (c ∷ cs) = Some c.1

  leaf_payload : (j k : List ℕ) (v w : P) → leaf_of j v ≡ leaf_of k w → v ≡ w
  leaf_payload j k v w e =
      let both : ◌≡◌ {A = Option (Child P)} (Some (Payload v)) (Some (Payload w)) = ap (λ (n : TableNode P). first_child n.children) e in cc

  module _ (s : NodeTable P) (root : ℕ) (key : List ℕ) where
    -- the path of a key determines the slot
    path_one : (a l k : ℕ) (q r : List ℕ) (i j : ℕ) → PathTo s root key a l q i → PathTo s root key a k r j → i ≡ j
    path_one zero l k q r i j x y = x.2 ∙ sym y.2
    path_one (suc a) l k q r i j x y =
        let e = path_one a (suc l) (suc k) x.parent_q y.parent_q x.parent y.parent x.path y.path in
        let both : Some x.tree.node ≡ Some y.tree.node = sym x.tree.here ∙ ap (λ z. node_at s z) e ∙ y.tree.here in
        let same : x.tree.node ≡ y.tree.node = cc in
        let slots : ◌≡◌ {A = Option (Child P)} (Some (Node i)) (Some (Node j)) = sym x.found ∙ ap (λ (n : TableNode P). lookup n.children (next_byte n.prefix key)) same ∙ y.found in
        cc

    -- the node above the end of a path is on the trail
    trail_slot : (trail : List ℕ) (a leaf parent : ℕ) → IsTrail s root key (map name_of trail) (a + 1) → LeadsTo s root key (a + 1) leaf parent → parent ≡ name_of (get_or trail a 0)
    trail_slot trail a leaf parent on leads =
        let l = subst (λ k. LeadsTo s root key k leaf parent) (let more : a + 1 ≡ suc a = omega arith in more) leads in
        at l
      where
        at : LeadsTo s root key (suc a) leaf parent → parent ≡ name_of (get_or trail a 0)
        at l =
            let k = on.at a (omega arith) in
            sym l.up ∙ path_one a (suc l.levels) k.levels l.path.parent_q k.q l.path.parent (get_or (map name_of trail) a 0) l.path.path k.path ∙ at_name trail a

    -- A PAYLOAD TAKEN from the key's leaf
    module _ (e : LinkEnd) (b : ℕ) (is : e.stop ≡ Leaf b) (ends : SeeksTo s root key (seen_end key e)) where
      ends_there : SeeksTo s root key (seen_at key e.slot e.parent e.above (Leaf b))
      ends_there = subst (λ st. SeeksTo s root key (seen_at key e.slot e.parent e.above st)) is ends

      leaf_stop : Halts key ends_there.node (stops.Leaf b)
      leaf_stop = ends_there.stop

      pub leaf_at : HasLeafAt s (name_of e.slot)
      leaf_at = record {
        node = ends_there.node;
        here = ends_there.here;
        seven = leaf_stop.2;
        kind = leads_kind s root key e.above (name_of e.slot) (name_of e.parent) ends_there.node ends_there.leads ends_there.here;
      }

      pub leaf_taken : (t : NodeTable P) (trail : List ℕ) (v : P) (forms : FormCounts) → IsWholeBefore s root key (map name_of trail) e.above forms → TakesPayload s t (name_of e.slot) b v
          → HasTaken s t root key (map name_of trail) e.above (name_of e.slot) (name_of e.parent) b forms
      leaf_taken t trail v forms whole x = record {
        whole = whole;
        ends = ends_there;
        payload = v;
        stored = λ n here.
            let both : Some x.node ≡ Some n = sym x.here ∙ here in
            let same : x.node ≡ n = cc in
            subst (λ (m : TableNode P). lookup m.children b ≡ Some (Payload v)) same x.found;
        takes = (
          x.others,
          λ n here.
              let both : Some x.node ≡ Some n = sym x.here ∙ here in
              let same : x.node ≡ n = cc in (
                record n { children = without n.children b },
                x.there ∙ ap (λ (m : TableNode P). Some (record m { children = without m.children b })) same,
                (refl, refl, refl),
              ),
        );
      }

    -- A PAIR TAKEN from its parent
    module _ (e : LinkEnd) (b : ℕ) (is : e.stop ≡ Pair b) (seeks : SeeksTo s root key (seen_end key e)) (knows : KnowsPair s key e) where
      abbrev leaf : ℕ
      leaf = name_under e.slot b

      ends : SeeksTo s root key (seen_at key e.slot e.parent e.above (Pair b))
      ends = subst (λ st. SeeksTo s root key (seen_at key e.slot e.parent e.above st)) is seeks

      pair : KnowsPairAt key s e.slot (Pair b)
      pair = subst (λ st. KnowsPairAt key s e.slot st) is knows

      -- its leaf is counted
      pub pair_counted : (trail : List ℕ) (forms : FormCounts) → IsWholeBefore s root key trail e.above forms → 0 < count N4 forms
      pair_counted trail forms w =
          let x = counted_there s root key (seen_at key e.slot e.parent e.above (Pair b)) ends w.bytes w.full forms w.counted in
          let both : Some x.node ≡ Some (leaf_of pair.0.leaf.key pair.0.leaf.payload) = sym x.here ∙ pair.0.leaf.is in
          let same : x.node ≡ leaf_of pair.0.leaf.key pair.0.leaf.payload = cc in
          let form : x.node.form ≡ N4 = ap (λ (n : TableNode P). n.form) same in
          subst (λ f. 0 < count f forms) form x.counted

      pub pair_taken : (t : NodeTable P) (trail : List ℕ) (v : P) (forms new : FormCounts) → IsWholeBefore s root key (map name_of trail) e.above forms → LosesLeaf s t (name_of e.slot) b leaf v → forms ≡ with_form N4 new
          → HasRisen s root key t (name_of (get_or trail e.above 0)) e.above forms new
      pair_taken t trail v forms new w x counted =
          let m = pair.0 in
          let both : Some (leaf_of m.leaf.key m.leaf.payload) ≡ Some (leaf_of x.key v) = sym m.leaf.is ∙ x.was in
          let same : leaf_of m.leaf.key m.leaf.payload ≡ leaf_of x.key v = cc in
          let is_leaf : node_at s leaf ≡ Some (leaf_of key v) = m.leaf.is ∙ ap (λ k. Some (leaf_of k m.leaf.payload)) pair.1 ∙ ap (λ p. Some (leaf_of key p)) (leaf_payload m.leaf.key x.key m.leaf.payload v same) in
          let two : Some m.leaf.below.node ≡ Some x.node = sym m.leaf.below.here ∙ x.here in
          let alike : m.leaf.below.node ≡ x.node = cc in
          let byte : b ≡ next_byte x.node.prefix key = m.byte ∙ ap (λ (n : TableNode P). next_byte n.prefix key) alike in
          subst (λ i. HasRisen s root key t i e.above forms new) (trail_slot trail e.above leaf (name_of e.slot) w.on_trail ends.leads)
          (pair_gone s t root key w.full leaf b v (name_of e.slot) e.above ends.leads is_leaf x byte forms new counted)
