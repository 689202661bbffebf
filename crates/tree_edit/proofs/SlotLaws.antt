-- Slots of a table, and what several writes do one after another.
use Rattle.std.proofs.Common.{◌≡◌, ◌≢◌, Some, get_or, slice_set, None, length, ◌<◌, List, [], ◌∷◌, Option, ℕ, zero, suc, arith, subst, sym, ap, refl, ◌∙◌}
use Rattle.spec_map.specs.Map.{put}
use Rattle.spec_node.specs.TableNode.{TableNode}
use Rattle.node_table.specs.Table.{NodeTable, node_at}
use Rattle.tree_edit.specs.inner.Writes.{SameElsewhere, MakesRoom, WritesChild, IsLeafOf, empty_leaf, Adds, AddsLeafFor, Splits, SplitsFor}
use Rattle.spec_node.specs.declared.child.Child.TheVariants.{Payload, Node}

-- a slot that has a node is within the table
pub in_range : {X : Type 0} (s : List (Option X)) (i : ℕ) (n : X) → get_or s i None ≡ Some n → i < length s
in_range [] i n h = absurd (cc)
in_range (x ∷ s) zero n h = omega arith
in_range (x ∷ s) (suc i) n h = omega (arith, in_range s i n h)

-- writing what is there changes nothing
pub set_same : {X : Type 0} (s : List (Option X)) (i : ℕ) (n : X) → get_or s i None ≡ Some n → slice_set s i (Some n) ≡ s
set_same [] i n h = refl
set_same (x ∷ s) zero n h = ap (λ y. y ∷ s) (sym h)
set_same (x ∷ s) (suc i) n h = ap (λ t. x ∷ t) (set_same s i n h)

module _ {P : Type 0} where
  -- a slot with a node isn't a vacant one
  pub differ : (s : NodeTable P) (i j : ℕ) (m : TableNode P) → node_at s i ≡ Some m → node_at s j ≡ None → i ≢ j
  differ s i j m here fresh = λ same. absurd (let e = subst (λ x. node_at s x ≡ Some m) same here in let f : Some m ≡ None = sym e ∙ fresh in cc)

  -- a node is unchanged by an insertion into another slot
  pub at_key : (s r t : NodeTable P) (i j : ℕ) (m : TableNode P) → r ≡ s → node_at r j ≡ None → ((o : ℕ) → o ≢ j → node_at t o ≡ node_at r o) → node_at s i ≡ Some m → node_at t i ≡ Some m
  at_key s r t i j m same fresh others here =
      let here' : node_at r i ≡ Some m = subst (λ x. node_at x i ≡ Some m) (sym same) here in
      others i (differ r i j m here' fresh) ∙ here'

  -- what was an empty leaf for the key is the leaf of its pair
  written : (g t : NodeTable P) (key : List ℕ) (leaf : ℕ) (v : P) → node_at g leaf ≡ Some (empty_leaf key) → WritesChild g t leaf (get_or key 7 0) (Payload v)
      → (l : TableNode P) × (node_at t leaf ≡ Some l) × IsLeafOf l key v
  written g t key leaf v there w =
      let x = w (empty_leaf key) there in
      (x.0, x.1, record { prefix = x.2; children = x.3; form = x.4 })

  module _ (s g t : NodeTable P) (slot : ℕ) (key : List ℕ) (v : P) where
    -- room in the leaf, then the payload
    pub adds_here : (b : ℕ) → SameElsewhere slot s g → MakesRoom s g slot → ((n : TableNode P) → node_at s slot ≡ Some n → length n.prefix ≡ 7)
        → SameElsewhere slot g t → WritesChild g t slot b (Payload v) → Adds s t slot key b v
    adds_here b kept grown seven keeps w = (
      λ i m d here. keeps i d ∙ kept i d ∙ here,
      λ n here.
          let y = grown n here in
          let x = w y.0 y.1 in
          (Payload v, x.0, x.1, x.2 ∙ y.2, x.3 ∙ ap (λ es. put es b (Payload v)) y.3, x.4 ∙ y.5, (seven n here, refl)),
    )

    -- an empty leaf below the node, then the payload in it
    pub adds_below : (b leaf : ℕ) → AddsLeafFor s g slot key b leaf → ((n : TableNode P) → node_at s slot ≡ Some n → length n.prefix < 7)
        → SameElsewhere leaf g t → WritesChild g t leaf (get_or key 7 0) (Payload v) → Adds s t slot key b v
    adds_below b leaf x inner keeps w = (
      λ i m d here. keeps i (differ s i leaf m here x.fresh) ∙ x.keeps i m d here,
      λ n here.
          let y = x.more n here in
          let less = inner n here in
          (Node leaf, y.1, keeps slot (differ s slot leaf n here x.fresh) ∙ y.2, y.3, y.4 ∙ ap (λ c. put n.children b c) y.6, y.5, (omega (arith, less), written g t key leaf v x.there w)),
    )

    -- a split with an empty leaf, then the payload in it
    pub splits_then : (at leaf : ℕ) → SplitsFor s g slot key at leaf → SameElsewhere leaf g t → WritesChild g t leaf (get_or key 7 0) (Payload v) → Splits s t slot key at v
    splits_then at leaf x keeps w =
        let p = x.parts in
        let there : node_at g leaf ≡ Some (empty_leaf key) = subst (λ j. node_at g j ≡ Some (empty_leaf key)) x.is (p.leaf_there ∙ ap (λ (l : TableNode P). Some l) p.is_leaf) in
        let l = written g t key leaf v there w in
        record {
          node = p.node;
          here = p.here;
          upper = p.upper;
          leaf = l.0;
          lower_slot = p.lower_slot;
          leaf_slot = p.leaf_slot;
          keeps = λ i m d here. keeps i (differ s i leaf m here x.fresh) ∙ p.keeps i m d here;
          upper_there = keeps slot (differ s slot leaf p.node p.here x.fresh) ∙ p.upper_there;
          lower_there = keeps p.lower_slot x.apart ∙ p.lower_there;
          leaf_there = subst (λ j. node_at t j ≡ Some l.0) (sym x.is) l.1;
          form_is = p.form_is;
          prefix_is = p.prefix_is;
          children_are = p.children_are;
          is_leaf = l.2;
        }
