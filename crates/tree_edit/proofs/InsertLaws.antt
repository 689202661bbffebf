-- What each end of an insertion does to the whole tree.
use Rattle.std.proofs.Common.{Bor, ◌≡◌, ℕ, zero, suc, ◌+◌, ◌<◌, ◌≤◌, List, [], ◌∷◌, ◌++◌, length, get_or, take, drop, Some, None, refl, ap, sym, subst, ◌∙◌, arith, length-append}
use Rattle.std.proofs.lemmas.List.{length-take, take-append-drop, drop_all}
use Rattle.std.proofs.lemmas.Bool.{le-ltb, eq-eqb}
use Rattle.node_table.proofs.BeginLaws.{after, begins_by}
use Rattle.spec_map.specs.Map.{lookup, put, Rises}
use Rattle.spec_node.specs.Key.{AreBytes, low, key_number, Begins, IsFirstDifference}
use Rattle.node_table.proofs.KeyLaws.{goes_on, Begins-take, key_number_at, split_at, AreBytes-append_right}
use Rattle.spec_map.proofs.MapLaws.{Rises-put}
use Rattle.node_table.proofs.ChildrenLaws as laws
use Rattle.node_table.proofs.SoundLaws.{AreBytes-take, sound_from, sound-put}
use Rattle.node_table.specs.Table.{IsSound}
use Rattle.spec_node.specs.TableNode.{TableNode, Child}
use Rattle.node_table.specs.Table.{NodeTable, node_at, pairs_at, IsTree, IsChild}
use Rattle.spec_node.specs.Key.{next_byte}
use Rattle.tree_path.specs.inner.Descent.{PathTo, EndsAt, Differs, Absent, Present, EndPlace}
use Rattle.tree_path.specs.inner.Root.{depth}
use Rattle.tree_edit.specs.inner.Writes.{SameElsewhere, WritesChild, IsLeafOf, IsStoredFor, Adds, Splits}
use Rattle.spec_node.specs.declared.child.Child.TheVariants.{Payload, Node}
use Rattle.node_table.proofs.TableLaws.{under, IsChild-found}
use Rattle.node_table.proofs.DownLaws.{KeepsOthers}
use Rattle.node_table.proofs.WriteLaws.{KeepsSlots, Are-same, pairs-same, write}
use Rattle.tree_edit.proofs.SplitLaws.{relevel, split}
use Rattle.spec_map.proofs.LocalLaws.{put_local}
use Rattle.tree_path.proofs.PathEndLaws.{along, ends_in}

module _ {P : Type 0} (s t : NodeTable P) (root : ℕ) (key : List ℕ) (bytes : AreBytes key) (full : length key ≡ 8) (v : P) where
  pub keeps_others : (levels : ℕ) (q : List ℕ) (slot : ℕ) (h : IsTree s (suc levels) q slot) → KeepsSlots slot s t → KeepsOthers q s t
  keeps_others levels q slot h keeps i n here not_below =
      keeps i n (λ same.
      let there = subst (λ x. node_at s x ≡ Some n) same here in
      let both : Some h.node ≡ Some n = sym h.here ∙ there in
      let is : h.node ≡ n = cc in
      not_below (subst (λ (m : TableNode P). Begins q m.prefix) is h.begins)) here

  abbrev Whole : Type 0
  Whole = IsTree t depth [] root × (pairs_at t depth root ≡ put (pairs_at s depth root) (key_number key) v)

  leaf_sound : (l : TableNode P) → IsLeafOf l key v → IsSound l
  leaf_sound l is_leaf =
      let last = goes_on (take 7 key) key (begins_by (take 7 key) (drop 7 key) key (sym (take-append-drop 7 key))) bytes (omega (arith, length-take 7 key, full)) full in
      let at : length (take 7 key) ≡ 7 = length-take 7 key ∙ omega (arith, full) in
      let byte : get_or key 7 0 < 256 = subst (λ i. get_or key i 0 < 256) at last.byte in
      sound_from l (take 7 key) ((get_or key 7 0, Payload v) ∷ []) is_leaf.prefix is_leaf.children (AreBytes-take 7 key bytes) (omega (arith, at)) (omega arith, byte, tt)

  -- the node that a split makes
  two_sound : (u : TableNode P) (i j : ℕ) (n : TableNode P) (at : ℕ) → IsFirstDifference n.prefix key at → IsSound n → u.prefix ≡ take at key
      → u.children ≡ put ((get_or n.prefix at 0, Node i) ∷ []) (get_or key at 0) (Node j) → IsSound u
  two_sound u i j n at d h e f =
      let a = AreBytes-append_right (take at n.prefix) _ (subst AreBytes (split_at n.prefix at d.inside) h.bytes) in
      let b = AreBytes-append_right (take at key) _ (subst AreBytes (split_at key at (omega (arith, d.inside, h.short, full))) bytes) in
      let first : Rises {V = Child P} 0 256 ((get_or n.prefix at 0, Node i) ∷ []) = (omega arith, a.0, tt) in
      sound_from u (take at key) (put ((get_or n.prefix at 0, Node i) ∷ []) (get_or key at 0) (Node j)) e f (AreBytes-take at key bytes) (omega (arith, length-take at key, d.inside, h.short)) (Rises-put {V = Child P} 0 256 ((get_or n.prefix at 0, Node i) ∷ []) (get_or key at 0) (Node j) first (omega arith) b.0)

  -- the leaf of this key, below these bytes of it
  pub leaf_here : (r : List ℕ) (j : ℕ) (l : TableNode P) → Begins r key → length r ≤ 7 → node_at t j ≡ Some l → IsLeafOf l key v → IsTree t (suc zero) r j × (pairs_at t (suc zero) j ≡ (key_number key, v) ∷ [])
  leaf_here r j l begins short there is_leaf =
      let seven : length (take 7 key) ≡ 7 = length-take 7 key ∙ omega (arith, full) in
      let none : drop 8 key ≡ [] = drop_all 8 key (omega (arith, full)) in
      let whole : take 7 key ++ get_or key 7 0 ∷ [] ≡ key = sym (split_at key 7 (omega (arith, full)) ∙ ap (λ x. take 7 key ++ get_or key 7 0 ∷ x) none) in (
        record {
          node = l;
          here = there;
          begins = subst (λ x. Begins r x) (sym is_leaf.prefix) (Begins-take key r 7 begins short);
          sound = leaf_sound l is_leaf;
          children = Are-same (λ r j. IsTree t zero r j) l.prefix (take 7 key) l.children ((get_or key 7 0, Payload v) ∷ []) is_leaf.prefix is_leaf.children (seven, tt);
        },
        rw there (pairs-same (λ j. pairs_at t zero j) l.prefix (take 7 key) l.children ((get_or key 7 0, Payload v) ∷ []) is_leaf.prefix is_leaf.children ∙ ap (λ x. (low x, v) ∷ []) whole),
      )

  module _ (above levels slot : ℕ) (q : List ℕ) (path : PathTo s root key above (suc levels) q slot) (h : IsTree s (suc levels) q slot) (deep : above ≤ length q) (sum : above + suc levels ≡ 8) (keeps : KeepsSlots slot s t) where
    finish : IsTree t (suc levels) q slot × (pairs_at t (suc levels) slot ≡ put (pairs_at s (suc levels) slot) (key_number key) v) → Whole
    finish x = along s root key bytes full t (λ es. put es (key_number key) v) (put_local (key_number key) v) above (suc levels) slot q path x.0 x.1 (keeps_others levels q slot h keeps)

    -- a child that represents the pair
    stands_for : Begins h.node.prefix key → (c : Child P) → IsStoredFor t h.node.prefix key v c
        → IsChild (λ r j. IsTree t levels r j) h.node.prefix (next_byte h.node.prefix key) c × (under t levels h.node.prefix (next_byte h.node.prefix key) c ≡ (key_number key, v) ∷ [])
    stands_for begins (Payload w) x =
        let on = goes_on h.node.prefix key begins bytes h.sound.short full in
        let whole = key_number_at h.node.prefix key _ on.begins x.0 full in
        (x.0, ap (λ y. (y, w) ∷ []) (ap key_number (sym whole)) ∙ ap (λ y. (key_number key, y) ∷ []) x.1)
    stands_for begins (Node j) x =
        let p = h.node.prefix in
        let r = p ++ next_byte p key ∷ [] in
        let on = goes_on p key begins bytes h.sound.short full in
        let one = length-append p (next_byte p key ∷ []) in
        let long = simp length-append at (ap length (after h.begins).is) in
        let leaf = leaf_here r j x.1.0 on.begins (omega (arith, one, x.0, h.sound.short)) x.1.1 x.1.2 in
        let f = relevel t (suc zero) levels r j leaf.0 (omega (arith, one, long, deep, sum)) in
        (f.0, f.1 ∙ leaf.1)

    add_at : (b : ℕ) → b ≡ next_byte h.node.prefix key → Begins h.node.prefix key → lookup h.node.children b ≡ None → Adds s t slot key b v → Whole
    add_at b b_is begins absent adds =
        let p = h.node.prefix in
        let on = goes_on p key begins bytes h.sound.short full in
        let x = adds.1 h.node h.here in
        let child = stands_for begins x.0 x.6 in
        let sound = sound-put h.node x.1 b x.0 h.sound (rw b_is on.byte) x.3 x.4 in
        let child' : IsChild (λ r j. IsTree t levels r j) p b x.0 × (under t levels p b x.0 ≡ (key_number key, v) ∷ []) = rw b_is child in
        finish (write s t levels q slot b (key_number key) x.0 v x.1 h keeps x.2 sound x.3 x.4 child'.0 (rw absent child'.1) (rw b_is on.at_least) (rw b_is on.below))

    change_at : (b : ℕ) (w : P) → b ≡ next_byte h.node.prefix key → Begins h.node.prefix key → lookup h.node.children b ≡ Some (Payload w) → WritesChild s t slot b (Payload v) → Whole
    change_at b w b_is begins found writes =
        let p = h.node.prefix in
        let on = goes_on p key begins bytes h.sound.short full in
        let x = writes h.node h.here in
        let sound = sound-put h.node x.0 b (Payload v) h.sound (rw b_is on.byte) x.2 x.3 in
        let seven : length p ≡ 7 = IsChild-found s levels p h.node.children b (Payload w) h.children found in
        let whole : low (p ++ next_byte p key ∷ []) ≡ key_number key = ap key_number (sym (key_number_at p key _ on.begins seven full)) in
        let same : low (p ++ b ∷ []) ≡ key_number key = rw b_is whole in
        let pairs : under t levels p b (Payload v) ≡ put (laws.pairs_at (under t levels p) p b (Some (Payload w))) (key_number key) v = rw (same, le-ltb (key_number key) (key_number key) (omega arith), eq-eqb (key_number key) (key_number key) refl) refl in
        finish (write s t levels q slot b (key_number key) (Payload v) v x.0 h keeps x.1 sound x.2 x.3 seven (rw found pairs) (rw b_is on.at_least) (rw b_is on.below))

    split_at_node : (at : ℕ) → IsFirstDifference h.node.prefix key at → Begins q key → Splits s t slot key at v → Whole
    split_at_node at d q_key x =
        let both : Some x.node ≡ Some h.node = sym x.here ∙ h.here in
        let is : x.node ≡ h.node = cc in
        let children_are = subst (λ (n : TableNode P). x.upper.children ≡ put ((get_or n.prefix at 0, Node x.lower_slot) ∷ []) (get_or key at 0) (Node x.leaf_slot)) is x.children_are in
        let upper_sound = two_sound x.upper x.lower_slot x.leaf_slot h.node at d h.sound x.prefix_is children_are in
        finish (split s t levels q key slot x.lower_slot x.leaf_slot at v x.upper x.leaf h (omega (arith, deep, sum)) d q_key bytes full keeps x.upper_there
        (subst (λ n. node_at t x.lower_slot ≡ Some n) is x.lower_there) x.leaf_there upper_sound x.prefix_is
        children_are
        (leaf_sound x.leaf x.is_leaf) x.is_leaf.prefix x.is_leaf.children)

  -- the same from the place where the key's path ends
  pub add_whole : (place : EndPlace P) → EndsAt s root key place → (b : ℕ) → place.end ≡ Absent b → Adds s t place.slot key b v → Whole
  add_whole place a b is adds =
      let o = ends_in s root key place a (Absent b) is in
      add_at place.above o.levels place.slot o.q o.path o.tree o.deep o.sum adds.0 b o.end.0 o.end.1 o.end.2 adds

  pub change_whole : (place : EndPlace P) → EndsAt s root key place → (b : ℕ) (w : Bor P) → place.end ≡ Present b w → SameElsewhere place.slot s t → WritesChild s t place.slot b (Payload v) → Whole
  change_whole place a b w is keeps writes =
      let o = ends_in s root key place a (Present b w) is in
      change_at place.above o.levels place.slot o.q o.path o.tree o.deep o.sum (λ i m x there. keeps i x ∙ there) b w.now o.end.0 o.end.1 o.end.2 writes

  pub split_whole : (place : EndPlace P) → EndsAt s root key place → (at : ℕ) → place.end ≡ Differs at → Splits s t place.slot key at v → Whole
  split_whole place a at is x =
      let o = ends_in s root key place a (Differs at) is in
      split_at_node place.above o.levels place.slot o.q o.path o.tree o.deep o.sum x.keeps at o.end o.begins x
