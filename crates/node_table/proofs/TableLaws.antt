-- The pairs of a subtree of the table.
use Rattle.std.proofs.Common.{◌≡◌, ℕ, zero, suc, ◌-◌, List, [], ◌∷◌, ◌++◌, length, get_or, Option, Some, None, refl, ap, sym, subst, ◌∙◌, arith, inl, inr}
use Rattle.std.proofs.lemmas.Bool.{eq-eqb, ne_eqb, cases_eq}
use Rattle.spec_map.specs.Map.{lookup, Rises}
use Rattle.spec_node.specs.Key.{AreBytes, low, high, key_number, Begins, IsFirstDifference}
use Rattle.spec_map.proofs.MapLaws.{Rises-wider, lookup-below}
use Rattle.spec_map.proofs.JoinLaws.{lookup-above}
use Rattle.node_table.proofs.KeyLaws.{room-positive, low-begins, high-begins, off_prefix, goes_on, key_number_at}
use Rattle.node_table.proofs.ChildrenLaws as laws
use Rattle.node_table.specs.Table.{IsSound}
use Rattle.spec_node.specs.TableNode.{TableNode, Child}
use Rattle.node_table.specs.Table.{NodeTable, node_at, pairs_under, pairs_of, pairs_at, IsChild, AreChildren, IsTree, IsSubtree}
use Rattle.spec_node.specs.declared.child.Child.TheVariants.{Payload, Node}

module _ {P : Type 0} (s : NodeTable P) where
  abbrev pub under : ℕ → List ℕ → ℕ → Child P → List (ℕ × P)
  under levels p b c = pairs_under (λ j. pairs_at s levels j) p b c

  pub same_pairs : (levels : ℕ) (p : List ℕ) (es : List (ℕ × Child P)) → pairs_of (λ j. pairs_at s levels j) p es ≡ laws.pairs_of (under levels p) p es
  same_pairs levels p [] = refl
  same_pairs levels p (e ∷ es) = ap (λ t. under levels p e.0 e.1 ++ t) (same_pairs levels p es)

  pub all_rise : (levels : ℕ) → ((q : List ℕ) (slot : ℕ) → IsTree s levels q slot → Rises (low q) (high q) (pairs_at s levels slot))
      → (p : List ℕ) (es : List (ℕ × Child P)) → AreChildren (λ q j. IsTree s levels q j) p es → laws.AllRise (under levels p) p es
  all_rise levels ih p [] h = tt
  all_rise levels ih p ((b, Payload v) ∷ es) h =
      let r = room-positive 8 (p ++ b ∷ []) in ((omega arith, omega arith, tt), all_rise levels ih p es h.1)
  all_rise levels ih p ((b, Node j) ∷ es) h = (ih (p ++ b ∷ []) j h.0, all_rise levels ih p es h.1)

  -- the keys of a subtree rise and begin with the bytes above it
  pub tree_rises : (levels : ℕ) (q : List ℕ) (slot : ℕ) → IsTree s levels q slot → Rises (low q) (high q) (pairs_at s levels slot)
  tree_rises zero q slot h = absurd h
  tree_rises (suc levels) q slot h =
      let p = h.node.prefix in
      let r = laws.node_rises (under levels p) p h.node.children h.sound.short h.sound.ordered (all_rise levels (tree_rises levels) p h.node.children h.children) in
      rw (h.here, same_pairs levels p h.node.children)
      (Rises-wider _ _ _ _ _ (low-begins q p h.begins h.sound.bytes (omega (arith, h.sound.short))) (high-begins q p h.begins h.sound.bytes (omega (arith, h.sound.short))) r)

  -- a subtree at its node
  pub record Opened (levels slot : ℕ) (n : TableNode P) : Type 0 where
    pub less : ℕ
    pub is : levels ≡ suc less
    pub sound : IsSound n
    pub children : AreChildren (λ q j. IsTree s less q j) n.prefix n.children
    pub rise : laws.AllRise (under less n.prefix) n.prefix n.children
    pub pairs : pairs_at s levels slot ≡ laws.pairs_of (under less n.prefix) n.prefix n.children

  opened : (levels slot : ℕ) (n : TableNode P) (q : List ℕ) → IsTree s levels q slot → node_at s slot ≡ Some n → Opened levels slot n
  opened zero slot n q h here = absurd h
  opened (suc levels) slot n q h here =
      let same : Some h.node ≡ Some n = sym h.here ∙ here in
      let is : h.node ≡ n = cc in
      subst (λ m. Opened (suc levels) slot m) is
      (record {
        less = levels;
        is = refl;
        sound = h.sound;
        children = h.children;
        rise = all_rise levels (tree_rises levels) h.node.prefix h.node.children h.children;
        pairs = rw h.here (same_pairs levels h.node.prefix h.node.children);
      })

  pub open_subtree : (levels slot : ℕ) (n : TableNode P) → IsSubtree s levels slot → Some n ≡ node_at s slot → Opened levels slot n
  open_subtree levels slot n h here = opened levels slot n h.above h.tree (sym here)

  pub IsChild-found : (less : ℕ) (p : List ℕ) (es : List (ℕ × Child P)) (b : ℕ) (c : Child P) → AreChildren (λ q j. IsTree s less q j) p es → lookup es b ≡ Some c → IsChild (λ q j. IsTree s less q j) p b c
  IsChild-found less p [] b c h found = absurd (cc)
  IsChild-found less p (e ∷ es) b c h found =
      elim (cases_eq e.0 b) [
        | inl same ↦ let found' : Some e.1 ≡ Some c = rw (eq-eqb e.0 b same) at found in
            let is : e.1 ≡ c = cc in
            subst (λ x. IsChild (λ q j. IsTree s less q j) p b x) is (subst (λ x. IsChild (λ q j. IsTree s less q j) p x e.1) same h.0)
        | inr other ↦ IsChild-found less p es b c h.1 (rw (ne_eqb e.0 b other) at found)
      ]

  module _ (levels slot : ℕ) (n : TableNode P) (o : Opened levels slot n) (q key : List ℕ) (e : q ≡ n.prefix) (bytes : AreBytes key) (full : length key ≡ 8) where
    pub lookup-off_prefix : (i : ℕ) → IsFirstDifference q key i → lookup (pairs_at s levels slot) (key_number key) ≡ None
    lookup-off_prefix i d =
        let d' : IsFirstDifference n.prefix key i = subst (λ p. IsFirstDifference p key i) e d in
        let r = laws.node_rises (under o.less n.prefix) n.prefix n.children o.sound.short o.sound.ordered o.rise in
        rw o.pairs (elim (off_prefix n.prefix key i d' o.sound.bytes bytes o.sound.short full) [
          | inl above ↦ lookup-above _ _ _ _ r above
          | inr below ↦ lookup-below _ _ _ _ r below
        ])

    module _ (begins : Begins q key) where
      pub lookup-at_child : (c : Option (Child P)) → c ≡ lookup n.children (get_or key (length q) 0)
          → lookup (pairs_at s levels slot) (key_number key) ≡ lookup (laws.pairs_at (under o.less n.prefix) n.prefix (get_or key (length q) 0) c) (key_number key)
      lookup-at_child c is =
          let begins' : Begins n.prefix key = subst (λ p. Begins p key) e begins in
          let on = goes_on n.prefix key begins' bytes o.sound.short full in
          rw (o.pairs, is, e) (laws.lookup-pairs_of (under o.less n.prefix) n.prefix 0 n.children _ _ o.sound.short o.sound.ordered o.rise on.at_least on.below)

      pub lookup-at_payload : (v : P) → Some (Payload v) ≡ lookup n.children (get_or key (length q) 0) → lookup (pairs_at s levels slot) (key_number key) ≡ Some v
      lookup-at_payload v is =
          let begins' : Begins n.prefix key = subst (λ p. Begins p key) e begins in
          let on = goes_on n.prefix key begins' bytes o.sound.short full in
          let b = get_or key (length q) 0 in
          let seven : length n.prefix ≡ 7 = IsChild-found o.less n.prefix n.children b (Payload v) o.children (sym is) in
          let whole = key_number_at n.prefix key _ on.begins seven full in
          lookup-at_child (Some (Payload v)) is ∙ rw (eq-eqb (low (n.prefix ++ b ∷ [])) (key_number key) (ap key_number (rw e (sym whole)))) refl

      pub lookup-at_node : (j : ℕ) → Some (Node j) ≡ lookup n.children (get_or key (length q) 0) → lookup (pairs_at s levels slot) (key_number key) ≡ lookup (pairs_at s (levels - 1) j) (key_number key)
      lookup-at_node j is =
          let less : levels - 1 ≡ o.less = omega (arith, o.is) in
          rw less (lookup-at_child (Some (Node j)) is)
