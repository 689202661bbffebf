-- What a split of the node in a slot does to its subtree.
use Rattle.std.proofs.Common.{◌≡◌, ℕ, zero, suc, ◌+◌, ◌<◌, ◌≤◌, List, [], ◌∷◌, ◌++◌, length, get_or, take, drop, Some, None, refl, ap, sym, subst, ◌∙◌, arith, length-append, append-nil}
use Rattle.std.proofs.lemmas.Bool.{ne_eqb}
use Rattle.std.proofs.lemmas.List.{length-take, take-append-drop, drop_all}
use Rattle.node_table.proofs.BeginLaws.{after, begins_by}
use Rattle.spec_map.specs.Map.{lookup, put}
use Rattle.spec_node.specs.Key.{AreBytes, low, high, key_number, Begins, IsFirstDifference}
use Rattle.node_table.proofs.KeyLaws.{goes_on, Begins-take, Begins-at_difference_left, length-common, split_at, AreBytes-append_right}
use Rattle.node_table.proofs.ChildrenLaws as laws
use Rattle.node_table.specs.Table.{IsSound}
use Rattle.spec_node.specs.TableNode.{TableNode, Child}
use Rattle.node_table.specs.Table.{NodeTable, node_at, pairs_of, pairs_at, AreChildren, IsTree}
use Rattle.spec_node.specs.declared.child.Child.TheVariants.{Payload, Node}
use Rattle.node_table.proofs.TableLaws.{under, tree_rises, all_rise, same_pairs}
use Rattle.node_table.proofs.WriteLaws.{KeepsSlots, kept_children, Are-same, pairs-same, AreChildren-put}

module _ {P : Type 0} where
  relevel_children : (s : NodeTable P) (m n : ℕ) → ((q : List ℕ) (slot : ℕ) → IsTree s m q slot → 8 ≤ length q + n → IsTree s n q slot × (pairs_at s n slot ≡ pairs_at s m slot))
      → (p : List ℕ) (es : List (ℕ × Child P)) → AreChildren (λ r j. IsTree s m r j) p es → 7 ≤ length p + n
      → AreChildren (λ r j. IsTree s n r j) p es × (pairs_of (λ j. pairs_at s n j) p es ≡ pairs_of (λ j. pairs_at s m j) p es)
  relevel_children s m n ih p [] h l = (tt, refl)
  relevel_children s m n ih p ((b, Payload v) ∷ es) h l =
      let r = relevel_children s m n ih p es h.1 l in
      ((h.0, r.0), ap (λ x. (low (p ++ b ∷ []), v) ∷ x) r.1)
  relevel_children s m n ih p ((b, Node j) ∷ es) h l =
      let r = relevel_children s m n ih p es h.1 l in
      let longer = length-append p (b ∷ []) in
      let f = ih (p ++ b ∷ []) j h.0 (omega arith) in
      ((f.0, r.0), ap (λ x. x ++ pairs_of (λ i. pairs_at s n i) p es) f.1 ∙ ap (λ x. pairs_at s m j ++ x) r.1)

  -- a subtree of m levels is one of n levels too, if its keys have at most n bytes left
  pub relevel : (s : NodeTable P) (m n : ℕ) (q : List ℕ) (slot : ℕ) → IsTree s m q slot → 8 ≤ length q + n → IsTree s n q slot × (pairs_at s n slot ≡ pairs_at s m slot)
  relevel s zero n q slot h l = absurd h
  relevel s (suc m) zero q slot h l = let k = simp length-append at (ap length (after h.begins).is) in absurd (omega (arith, h.sound.short, k))
  relevel s (suc m) (suc n) q slot h l =
      let k = simp length-append at (ap length (after h.begins).is) in
      let c = relevel_children s m n (relevel s m n) h.node.prefix h.node.children h.children (omega (arith, k)) in
      (record { node = h.node; here = h.here; begins = h.begins; sound = h.sound; children = c.0 }, rw h.here c.1)

  module _ (s t : NodeTable P) (levels : ℕ) (q key : List ℕ) (slot lower leaf at : ℕ) (v : P) (m l : TableNode P) (h : IsTree s (suc levels) q slot)
      (enough : 7 ≤ length q + levels) (d : IsFirstDifference h.node.prefix key at) (q_key : Begins q key) (bytes : AreBytes key) (full : length key ≡ 8)
      (keeps : KeepsSlots slot s t) (upper_there : node_at t slot ≡ Some m) (lower_there : node_at t lower ≡ Some h.node) (leaf_there : node_at t leaf ≡ Some l)
      (sound_m : IsSound m) (prefix_m : m.prefix ≡ take at key) (children_m : m.children ≡ put ((get_or h.node.prefix at 0, Node lower) ∷ []) (get_or key at 0) (Node leaf))
      (sound_l : IsSound l) (prefix_l : l.prefix ≡ take 7 key) (children_l : l.children ≡ (get_or key 7 0, Payload v) ∷ []) where
    abbrev p : List ℕ
    p = take at key

    abbrev a : ℕ
    a = get_or h.node.prefix at 0

    abbrev b : ℕ
    b = get_or key at 0

    at_small : at ≤ 6
    at_small = omega (arith, d.inside, h.sound.short)

    length_p : length p ≡ at
    length_p = length-take at key ∙ omega (arith, d.inside, h.sound.short)

    q_short : length q ≤ at
    q_short = length-common h.node.prefix key q at d h.begins q_key

    lower_tree : IsTree t (suc levels) (p ++ a ∷ []) lower × (pairs_at t (suc levels) lower ≡ pairs_at s (suc levels) slot)
    lower_tree =
        let kept = kept_children s t levels slot h.node h.here keeps h.node.children h.children in
        let left : Begins (p ++ a ∷ []) h.node.prefix = subst (λ x. Begins (x ++ a ∷ []) h.node.prefix) d.same_before (Begins-at_difference_left h.node.prefix key at d) in
        (record { node = h.node; here = lower_there; begins = left; sound = h.sound; children = kept.0 }, rw (lower_there, h.here) kept.1)

    goes : Begins (p ++ b ∷ []) key × (low (p ++ b ∷ []) ≤ key_number key) × (key_number key < high (p ++ b ∷ []))
    goes =
        let on = goes_on p key (begins_by p (drop at key) key (sym (take-append-drop at key))) bytes (omega (arith, length_p, at_small)) full in
        let begins : Begins (p ++ b ∷ []) key = subst (λ n. Begins (p ++ get_or key n 0 ∷ []) key) length_p on.begins in
        (begins, subst (λ n. low (p ++ get_or key n 0 ∷ []) ≤ key_number key) length_p on.at_least, subst (λ n. key_number key < high (p ++ get_or key n 0 ∷ [])) length_p on.below)

    seven : length (take 7 key) ≡ 7
    seven = length-take 7 key ∙ omega (arith, full)

    whole : take 7 key ++ get_or key 7 0 ∷ [] ≡ key
    whole =
        let e = split_at key 7 (omega (arith, full)) in
        let none : drop 8 key ≡ [] = drop_all 8 key (omega (arith, full)) in
        sym (e ∙ ap (λ x. take 7 key ++ get_or key 7 0 ∷ x) none)

    leaf_tree : IsTree t (suc levels) (p ++ b ∷ []) leaf × (pairs_at t (suc levels) leaf ≡ (key_number key, v) ∷ [])
    leaf_tree =
        let longer = length-append p (b ∷ []) in
        let begins : Begins (p ++ b ∷ []) l.prefix = subst (λ x. Begins (p ++ b ∷ []) x) (sym prefix_l) (Begins-take key (p ++ b ∷ []) 7 goes.0 (omega (arith, longer, length_p, at_small))) in (
          record { node = l; here = leaf_there; begins = begins; sound = sound_l; children = Are-same (λ r j. IsTree t levels r j) l.prefix (take 7 key) l.children ((get_or key 7 0, Payload v) ∷ []) prefix_l children_l (seven, tt) },
          rw leaf_there (pairs-same (λ j. pairs_at t levels j) l.prefix (take 7 key) l.children ((get_or key 7 0, Payload v) ∷ []) prefix_l children_l ∙ ap (λ x. (low x, v) ∷ []) whole),
        )

    pub split : IsTree t (suc levels) q slot × (pairs_at t (suc levels) slot ≡ put (pairs_at s (suc levels) slot) (key_number key) v)
    split =
        let one_a = length-append p (a ∷ []) in
        let one_b = length-append p (b ∷ []) in
        let low_t = relevel t (suc levels) levels (p ++ a ∷ []) lower lower_tree.0 (omega (arith, one_a, length_p, q_short)) in
        let leaf_t = relevel t (suc levels) levels (p ++ b ∷ []) leaf leaf_tree.0 (omega (arith, one_b, length_p, q_short)) in
        let first : AreChildren {P = P} (λ r j. IsTree t levels r j) p ((a, Node lower) ∷ []) = (low_t.0, tt) in
        let all = AreChildren-put (λ r j. IsTree t levels r j) p ((a, Node lower) ∷ []) b (Node leaf) first leaf_t.0 in
        let rise = all_rise t levels (tree_rises t levels) p ((a, Node lower) ∷ []) first in
        let absent : lookup {V = Child P} ((a, Node lower) ∷ []) b ≡ None = rw (ne_eqb a b d.differ) refl in
        let k = key_number key in
        let byte : a < 256 = let x = AreBytes-append_right (take at h.node.prefix) _ (subst AreBytes (split_at h.node.prefix at d.inside) h.sound.bytes) in x.0 in
        let pairs : under t levels p b (Node leaf) ≡ put (laws.pairs_at (under t levels p) p b (lookup ((a, Node lower) ∷ []) b)) k v = rw absent (leaf_t.1 ∙ leaf_tree.1) in
        let new = laws.pairs_of-put (under t levels p) p 0 ((a, Node lower) ∷ []) b k (Node leaf) v (omega (arith, length_p, at_small)) (omega arith, byte, tt) rise goes.1 goes.2 pairs in
        let old : laws.pairs_of (under t levels p) p ((a, Node lower) ∷ []) ≡ pairs_at s (suc levels) slot = append-nil (pairs_at t levels lower) ∙ low_t.1 ∙ lower_tree.1 in
        let begins : Begins q m.prefix = subst (λ x. Begins q x) (sym prefix_m) (Begins-take key q at q_key q_short) in (
          record { node = m; here = upper_there; begins = begins; sound = sound_m; children = Are-same (λ r j. IsTree t levels r j) m.prefix p m.children (put ((a, Node lower) ∷ []) b (Node leaf)) prefix_m children_m all },
          rw upper_there (pairs-same (λ j. pairs_at t levels j) m.prefix p m.children (put ((a, Node lower) ∷ []) b (Node leaf)) prefix_m children_m
              ∙ same_pairs t levels p (put ((a, Node lower) ∷ []) b (Node leaf)) ∙ new ∙ ap (λ x. put x k v) old),
        )
