-- A pair that is alone in its leaf: what is done to it is what is done to that leaf.
use Rattle.std.proofs.Common.{◌≡◌, ◌≢◌, ℕ, zero, suc, ◌+◌, ◌<◌, List, [], ◌∷◌, ◌++◌, length, take, drop, get_or, Some, refl, ap, sym, subst, ◌∙◌, arith, length-append}
use Rattle.std.proofs.lemmas.Bool.{le-ltb, eq-eqb}
use Rattle.std.proofs.lemmas.List.{length-take, take-append-drop}
use Rattle.spec_map.specs.Map.{lookup, put, without}
use Rattle.node_base.specs.declared.base_node.NodeType.TheVariants.{N4}
use Rattle.spec_node.specs.Key.{Begins, key_number, next_byte}
use Rattle.spec_node.specs.TableNode.{TableNode}
use Rattle.node_table.specs.Table.{NodeTable, node_at, node_info, pairs_at, nodes_at, IsTree}
use Rattle.spec_node.specs.declared.child.Child.TheVariants.{Payload, Node}
use Rattle.node_table.proofs.BeginLaws.{begins_by}
use Rattle.tree_path.specs.inner.Descent.{PathTo, LeadsTo}
use Rattle.tree_path.specs.inner.Supply.{with_form}
use Rattle.tree_path.specs.declared.descent.Stop.TheVariants.{Leaf}
use Rattle.tree_path.specs.declared.supply.FormCounts.{FormCounts}
use Rattle.tree_edit.specs.inner.Rise.{HasRisen, KeepsOff}
use Rattle.tree_edit.specs.inner.Writes.{SameElsewhere, MakesRoom, Adds, IsStoredWhere, Exchanges}
use Rattle.tree_links.specs.PairCalls.{GetsLeaf, ChangesLeaf, LosesLeaf}
use Rattle.tree_links.specs.SeenTable.{leaf_of}
use Rattle.tree_links.proofs.KeyLaws.{eight}
use Rattle.tree_links.proofs.TreeLaws.{leaf_under}

module _ {P : Type 0} where
  -- A NEW PAIR below a node that has room now
  pub added : (s g t : NodeTable P) (i byte leaf : ℕ) (key : List ℕ) (v : P) → SameElsewhere i s g → MakesRoom s g i → ((n : TableNode P) → node_at s i ≡ Some n → length n.prefix < 7) → GetsLeaf g t i byte leaf key v → Adds s t i key byte v
  added s g t i byte leaf key v same room inner x = (
    λ o m far at. x.keeps o m far (same o far ∙ at),
    λ n here.
        let y = room n here in
        let both : Some x.node ≡ Some y.0 = sym x.here ∙ y.1 in
        let is : x.node ≡ y.0 = cc in
        let less = inner n here in
        let not_seven : length n.prefix ≢ 7 = omega (arith, less) in (
          Node leaf,
          record x.node { children = put x.node.children byte (Node leaf) },
          x.there,
          ap (λ (m : TableNode P). m.prefix) is ∙ y.2,
          ap (λ (m : TableNode P). put m.children byte (Node leaf)) is ∙ ap (λ es. put es byte (Node leaf)) y.3,
          ap (λ (m : TableNode P). m.form) is ∙ y.5,
          (not_seven, (leaf_of key v, x.is, record { prefix = refl; children = refl; form = refl })),
        ),
  )

  -- A PAYLOAD that is replaced
  module _ (s t : NodeTable P) (leaf : ℕ) (key : List ℕ) (before after : P) (x : ChangesLeaf s t leaf key before after) where
    abbrev last : ℕ
    last = get_or key 7 0

    pub pair_was : IsStoredWhere s leaf (Leaf last) before
    pair_was = λ n here.
        let both : Some (leaf_of key before) ≡ Some n = sym x.was ∙ here in
        let is : leaf_of key before ≡ n = cc in
        subst (λ (m : TableNode P). lookup m.children last ≡ Some (Payload before)) is (rw (eq-eqb last last refl) refl)

    pub pair_changes : Exchanges s t leaf (Leaf last) after
    pair_changes = (
      x.others,
      λ n here.
          let both : Some (leaf_of key before) ≡ Some n = sym x.was ∙ here in
          let is : leaf_of key before ≡ n = cc in
          subst (λ (m : TableNode P). (k : TableNode P) × (node_at t leaf ≡ Some k) × (k.prefix ≡ m.prefix) × (k.children ≡ put m.children last (Payload after)) × (k.form ≡ m.form)) is
          (leaf_of key after, x.is, refl, rw (le-ltb last last (omega arith), eq-eqb last last refl) refl, refl),
    )

  -- a subtree that is the leaf of one pair
  record IsPairAlone (s : NodeTable P) (levels : ℕ) (q : List ℕ) (slot : ℕ) (key : List ℕ) (v : P) : Type 0 where
    pairs : without (pairs_at s levels slot) (key_number key) ≡ []
    nodes : nodes_at s levels q slot ≡ node_info q (leaf_of key v) ∷ []

  pair_alone : (s : NodeTable P) (levels : ℕ) (q : List ℕ) (slot : ℕ) (key : List ℕ) (v : P) → length key ≡ 8 → IsTree s levels q slot → node_at s slot ≡ Some (leaf_of key v) → IsPairAlone s levels q slot key v
  pair_alone s zero q slot key v full h here = absurd h
  pair_alone s (suc levels) q slot key v full h here =
      let same : key_number (take 7 key ++ get_or key 7 0 ∷ []) ≡ key_number key = ap key_number (sym (eight key full)) in
      record {
        pairs = rw here (rw (eq-eqb (key_number (take 7 key ++ get_or key 7 0 ∷ [])) (key_number key) same) refl);
        nodes = rw here refl;
      }

  -- A PAIR THAT IS REMOVED: the removal has gone up to the node above its leaf
  module _ (s t : NodeTable P) (root : ℕ) (key : List ℕ) (full : length key ≡ 8) (leaf byte : ℕ) (v : P) where
    gone_at : (above levels : ℕ) (q : List ℕ) (path : PathTo s root key (suc above) levels q leaf) → IsTree s levels q leaf → node_at s leaf ≡ Some (leaf_of key v)
        → (x : LosesLeaf s t path.parent byte leaf v) → byte ≡ next_byte x.node.prefix key → (forms new : FormCounts) → forms ≡ with_form N4 new → HasRisen s root key t path.parent above forms new
    gone_at above levels q path tree is_leaf x byte_is forms new counted =
        let n = path.tree.node in
        let b = next_byte n.prefix key in
        let both : Some x.node ≡ Some n = sym x.here ∙ path.tree.here in
        let same : x.node ≡ n = cc in
        let byte_b : byte ≡ b = byte_is ∙ ap (λ (m : TableNode P). next_byte m.prefix key) same in
        let left : TableNode P = record n { children = without n.children b } in
        let there : node_at t path.parent ≡ Some left = x.there ∙ ap (λ (m : TableNode P). Some (record m { children = without m.children byte })) same ∙ ap (λ c. Some (record n { children = without n.children c })) byte_b in
        let child : IsTree s levels (n.prefix ++ b ∷ []) leaf = subst (λ r. IsTree s levels r leaf) path.is tree in
        let alone = pair_alone s levels (n.prefix ++ b ∷ []) leaf key v full child is_leaf in
        let leaf_begins : Begins (n.prefix ++ b ∷ []) (take 7 key) = leaf_under s levels (n.prefix ++ b ∷ []) leaf child (leaf_of key v) is_leaf in
        let seven : length (take 7 key) ≡ 7 = length-take 7 key ∙ omega (arith, full) in
        let off : KeepsOff path.parent (n.prefix ++ b ∷ []) s t = λ o m far not_below at. x.keeps o m far (λ e.
        let two : Some (leaf_of key v) ≡ Some m = sym is_leaf ∙ subst (λ z. node_at s z ≡ Some m) e at in
        let one : leaf_of key v ≡ m = cc in
        not_below (subst (λ (y : TableNode P). Begins (n.prefix ++ b ∷ []) y.prefix) one leaf_begins)) at in
        record {
          levels = levels;
          q = path.parent_q;
          path = path.path;
          top = path.tree;
          left = left;
          risen = record {
            begins = path.begins;
            there = there;
            prefix = refl;
            children = refl;
            child = Node leaf;
            found = path.found;
            spent = alone.pairs;
            gone = node_info (n.prefix ++ b ∷ []) (leaf_of key v) ∷ [];
            nodes = alone.nodes;
            way = (refl, begins_by (take 7 key) (drop 7 key) key (sym (take-append-drop 7 key)), refl, omega (arith, length-append (take 7 key) (next_byte (take 7 key) key ∷ []), seven));
            keeps = off;
          };
          form = refl;
          counted = counted;
        }

    pub pair_gone : (parent above : ℕ) → LeadsTo s root key (above + 1) leaf parent → node_at s leaf ≡ Some (leaf_of key v) → (x : LosesLeaf s t parent byte leaf v) → byte ≡ next_byte x.node.prefix key
        → (forms new : FormCounts) → forms ≡ with_form N4 new → HasRisen s root key t parent above forms new
    pair_gone parent above l is_leaf x byte_is forms new counted =
        let more : above + 1 ≡ suc above = omega arith in
        at (subst (λ a. LeadsTo s root key a leaf parent) more l)
      where
        at : LeadsTo s root key (suc above) leaf parent → HasRisen s root key t parent above forms new
        at k =
            let y : LosesLeaf s t k.path.parent byte leaf v = subst (λ z. LosesLeaf s t z byte leaf v) (sym k.up) x in
            let both : Some x.node ≡ Some y.node = sym x.here ∙ ap (λ z. node_at s z) (sym k.up) ∙ y.here in
            let is : x.node ≡ y.node = cc in
            subst (λ z. HasRisen s root key t z above forms new) k.up
            (gone_at above k.levels k.q k.path k.tree is_leaf y (byte_is ∙ ap (λ (m : TableNode P). next_byte m.prefix key) is) forms new counted)
