-- Which insertions may fail: the pairs that share the key's first seven bytes are the children of its leaf.
use Rattle.std.proofs.Common.{◌≡◌, ◌≢◌, ℕ, zero, suc, ◌≤◌, List, [], ◌∷◌, ◌++◌, length, get_or, take, Some, None, refl, ap, sym, subst, ◌∙◌, arith, inl, inr, length-append, append-nil}
use Rattle.std.proofs.lemmas.List.{length-take}
use Rattle.std.proofs.lemmas.Bool.{cases_order, cases_eq}
use Rattle.node_table.proofs.BeginLaws.{after, begins_itself}
use Rattle.spec_map.specs.Map.{lookup, between}
use Rattle.spec_map.specs.Refusal.{IsFullOrAbsent, NeedsNode, leaf_pairs}
use Rattle.spec_node.specs.Key.{AreBytes, low, high, key_number, Begins, IsFirstDifference}
use Rattle.node_table.specs.Table.{NodeTable, node_at, pairs_at, IsTree}
use Rattle.spec_node.specs.TableNode.{TableNode}
use Rattle.spec_map.proofs.RangeLaws.{between-all, between-above}
use Rattle.tree_path.proofs.ShareLaws.{between-below, between-pairs_of, sharing_is, leaf_length}
use Rattle.node_table.proofs.KeyLaws.{goes_on, low-begins, high-begins, byte_order, Begins-take, Begins-at_difference_left, Begins-at_difference_right}
use Rattle.node_table.proofs.SoundLaws.{AreBytes-take}
use Rattle.node_table.proofs.ChildrenLaws as laws
use Rattle.node_table.proofs.TableLaws.{under, tree_rises, open_subtree}
use Rattle.node_table.proofs.DownLaws.{Begins-trans}
use Rattle.spec_node.specs.Key.{next_byte}
use Rattle.tree_path.specs.inner.Descent.{PathTo, FindsEnd, EndsAt, Differs, Absent, EndPlace}
use Rattle.tree_path.specs.inner.Root.{depth}
use Rattle.tree_path.proofs.PathEndLaws.{lookup_end}

module _ {P : Type 0} (s : NodeTable P) (root : ℕ) (key : List ℕ) (bytes : AreBytes key) (full : length key ≡ 8) where
  abbrev first : List ℕ
  first = take 7 key

  length_first : length first ≡ 7
  length_first = length-take 7 key ∙ omega (arith, full)

  -- the keys that begin with these bytes are among those below any shorter beginning
  within : (q : List ℕ) → Begins q key → length q ≤ 7 → (low q ≤ low first) × (high first ≤ high q)
  within q begins short =
      let b = Begins-take key q 7 begins short in
      (low-begins q first b (AreBytes-take 7 key bytes) (omega (arith, length_first)), high-begins q first b (AreBytes-take 7 key bytes) (omega (arith, length_first)))

  -- what lies there in the whole lies at the end of the path
  between_along : (above levels slot : ℕ) (q : List ℕ) → PathTo s root key above levels q slot → Begins q key → length q ≤ 7
      → between (pairs_at s depth root) (low first) (high first) ≡ between (pairs_at s levels slot) (low first) (high first)
  between_along zero levels slot q path begins short = rw (path.0, path.2) refl
  between_along (suc above) levels slot q path begins short =
      let h = path.tree in
      let o = open_subtree s (suc levels) path.parent h.node (record { above = path.parent_q; tree = h }) (sym h.here) in
      let p = h.node.prefix in
      let b = next_byte p key in
      let long = simp length-append at (ap length (after h.begins).is) in
      let less : o.less ≡ levels = omega (arith, o.is) in
      let inside = within (p ++ b ∷ []) (subst (λ r. Begins r key) path.is begins) (subst (λ r. length r ≤ 7) path.is short) in
      let one = between-pairs_of (under s o.less p) p 0 h.node.children b (low first) (high first) o.sound.short o.sound.ordered o.rise inside.0 inside.1 in
      let found : between (pairs_at s (suc levels) path.parent) (low first) (high first) ≡ between (pairs_at s levels slot) (low first) (high first) =
      rw o.pairs (subst (λ l. between (laws.pairs_of (under s o.less p) p h.node.children) (low first) (high first) ≡ between (pairs_at s l slot) (low first) (high first)) less
      (subst (λ c. between (laws.pairs_of (under s o.less p) p h.node.children) (low first) (high first) ≡ between (laws.pairs_at (under s o.less p) p b c) (low first) (high first)) path.found one)) in
      between_along above (suc levels) path.parent path.parent_q path.path (Begins-trans path.parent_q p key h.begins path.begins) (omega (arith, long, h.sound.short)) ∙ found

  module _ (place : EndPlace P) (a : EndsAt s root key place) where
    there : between (pairs_at s depth root) (low first) (high first) ≡ between (pairs_at s a.leads.levels place.slot) (low first) (high first)
    there =
        let w = a.leads in
        let o = open_subtree s w.levels place.slot a.node (record { above = w.q; tree = w.tree }) (sym a.here) in
        between_along place.above w.levels place.slot w.q w.path w.begins (short w.levels w.tree)
      where
        short : (levels : ℕ) → IsTree s levels a.leads.q place.slot → length a.leads.q ≤ 7
        short zero h = absurd h
        short (suc levels) h = let long = simp length-append at (ap length (after h.begins).is) in omega (arith, long, h.sound.short)

    shared : leaf_pairs (pairs_at s depth root) (key_number key) ≡ between (pairs_at s a.leads.levels place.slot) (low first) (high first)
    shared = sharing_is (pairs_at s depth root) key bytes full ∙ there

    pub needs_node-absent : (b : ℕ) → place.end ≡ Absent b → (length a.node.prefix ≡ 7 → IsFullOrAbsent (length a.node.children)) → NeedsNode (pairs_at s depth root) (key_number key)
    needs_node-absent b is refuses =
        let w = a.leads in
        let o = open_subtree s w.levels place.slot a.node (record { above = w.q; tree = w.tree }) (sym a.here) in
        let p = a.node.prefix in
        let d : FindsEnd key a.node (Absent b) = subst (λ e. FindsEnd key a.node e) is a.end in
        let none = lookup_end s root key bytes full place a (Absent b) (sym is) (λ c v e. absurd (cc)) in
        record {
          absent = none;
          edge = elim (cases_eq (length p) 7) [
            | inl seven ↦ leaf seven
            | inr other ↦ inl (inner other)
          ];
        }
      where
        inner : length a.node.prefix ≢ 7 → length (leaf_pairs (pairs_at s depth root) (key_number key)) ≡ 0
        inner other =
            let w = a.leads in
            let o = open_subtree s w.levels place.slot a.node (record { above = w.q; tree = w.tree }) (sym a.here) in
            let p = a.node.prefix in
            let d : FindsEnd key a.node (Absent b) = subst (λ e. FindsEnd key a.node e) is a.end in
            let on = goes_on p key d.1 bytes o.sound.short full in
            let one = length-append p (next_byte p key ∷ []) in
            let inside = within (p ++ next_byte p key ∷ []) on.begins (omega (arith, one, other, o.sound.short)) in
            let none : lookup a.node.children (next_byte p key) ≡ None = subst (λ x. lookup a.node.children x ≡ None) d.0 d.2 in
            let part = between-pairs_of (under s o.less p) p 0 a.node.children (next_byte p key) (low first) (high first) o.sound.short o.sound.ordered o.rise inside.0 inside.1 in
            let empty : between (pairs_at s w.levels place.slot) (low first) (high first) ≡ [] = rw (o.pairs, part, none) refl in
            ap length (shared ∙ empty)

        leaf : length a.node.prefix ≡ 7 → IsFullOrAbsent (length (leaf_pairs (pairs_at s depth root) (key_number key)))
        leaf seven =
            let w = a.leads in
            let d : FindsEnd key a.node (Absent b) = subst (λ e. FindsEnd key a.node e) is a.end in
            let count = all_of w.levels place.slot w.q a.node w.tree a.here seven d.1 in
            subst IsFullOrAbsent (sym (ap length shared ∙ count)) (refuses seven)
          where
            all_of : (levels slot : ℕ) (q : List ℕ) (n : TableNode P) → IsTree s levels q slot → node_at s slot ≡ Some n → length n.prefix ≡ 7 → Begins n.prefix key
                → length (between (pairs_at s levels slot) (low first) (high first)) ≡ length n.children
            all_of zero slot q n h here seven begins = absurd h
            all_of (suc levels) slot q n h here seven begins =
                let both : Some h.node ≡ Some n = sym h.here ∙ here in
                let is : n ≡ h.node = cc in
                let seven' : length h.node.prefix ≡ 7 = subst (λ (m : TableNode P). length m.prefix ≡ 7) is seven in
                let begins' : Begins h.node.prefix key = subst (λ (m : TableNode P). Begins m.prefix key) is begins in
                let o = open_subtree s (suc levels) slot h.node (record { above = q; tree = h }) (sym h.here) in
                let b = Begins-take key h.node.prefix 7 begins' (omega arith) in
                let exact : first ≡ h.node.prefix = whole h.node.prefix first b (omega (arith, seven', length_first)) in
                let rise = tree_rises s (suc levels) h.node.prefix slot (record { node = h.node; here = h.here; begins = begins_itself h.node.prefix; sound = h.sound; children = h.children }) in
                let all = between-all (low h.node.prefix) (high h.node.prefix) (low h.node.prefix) (high h.node.prefix) (pairs_at s (suc levels) slot) rise (omega arith) (omega arith) in
                let count = leaf_length s levels h.node.prefix h.node.children seven' h.children in
                let same = subst (λ x. between (pairs_at s (suc levels) slot) (low x) (high x) ≡ pairs_at s (suc levels) slot) (sym exact) all in
                ap length same ∙ rw h.here count ∙ ap (λ (m : TableNode P). length m.children) (sym is)
              where
                whole : (p r : List ℕ) → Begins p r → length p ≡ length r → r ≡ p
                whole p r b e =
                    let a = after b in
                    let l = simp length-append at (ap length a.is) in
                    a.is ∙ ap (λ x. p ++ x) (empty a.rest (omega (arith, l, e))) ∙ append-nil p
                  where
                    empty : (x : List ℕ) → length x ≡ 0 → x ≡ []
                    empty [] e = refl
                    empty (y ∷ x) e = absurd (omega arith)

    pub needs_node-differs : (at : ℕ) → place.end ≡ Differs at → NeedsNode (pairs_at s depth root) (key_number key)
    needs_node-differs at is =
        let w = a.leads in
        let none = lookup_end s root key bytes full place a (Differs at) (sym is) (λ c v e. absurd (cc)) in
        let d : FindsEnd key a.node (Differs at) = subst (λ e. FindsEnd key a.node e) is a.end in
        record { absent = none; edge = inl (ap length (shared ∙ off w.levels place.slot w.q a.node w.tree a.here d)) }
      where
        off : (levels slot : ℕ) (q : List ℕ) (n : TableNode P) → IsTree s levels q slot → node_at s slot ≡ Some n → IsFirstDifference n.prefix key at
            → between (pairs_at s levels slot) (low first) (high first) ≡ []
        off zero slot q n h here d = absurd h
        off (suc levels) slot q n h here d =
            let both : Some h.node ≡ Some n = sym h.here ∙ here in
            let is : n ≡ h.node = cc in
            let d' : IsFirstDifference h.node.prefix key at = subst (λ (m : TableNode P). IsFirstDifference m.prefix key at) is d in
            let p = h.node.prefix in
            let c = take at key in
            let left : Begins (c ++ get_or p at 0 ∷ []) p = subst (λ x. Begins (x ++ get_or p at 0 ∷ []) p) d'.same_before (Begins-at_difference_left p key at d') in
            let key_left : Begins (take at p ++ get_or key at 0 ∷ []) key = Begins-at_difference_right p key at d' (omega (arith, d'.inside, h.sound.short, full)) in
            let right : Begins (c ++ get_or key at 0 ∷ []) key = subst (λ x. Begins (x ++ get_or key at 0 ∷ []) key) d'.same_before key_left in
            let length_c = length-take at key in
            let one = length-append c (get_or key at 0 ∷ []) in
            let inside = within (c ++ get_or key at 0 ∷ []) right (omega (arith, one, length_c, d'.inside, h.sound.short)) in
            let x = low-begins (c ++ get_or p at 0 ∷ []) p left h.sound.bytes (omega (arith, h.sound.short)) in
            let y = high-begins (c ++ get_or p at 0 ∷ []) p left h.sound.bytes (omega (arith, h.sound.short)) in
            let rise = tree_rises s (suc levels) p slot (record { node = h.node; here = h.here; begins = begins_itself p; sound = h.sound; children = h.children }) in
            elim (cases_order (get_or p at 0) (get_or key at 0)) [
              | inl same ↦ absurd (d'.differ same)
              | inr (inl less) ↦
                  let z = byte_order 8 c (get_or p at 0) (get_or key at 0) less (omega (arith, length_c, d'.inside, h.sound.short)) in
                  between-below (low p) (high p) (low first) (high first) (pairs_at s (suc levels) slot) rise (omega (arith, inside.0, y, z))
              | inr (inr more) ↦
                  let z = byte_order 8 c (get_or key at 0) (get_or p at 0) more (omega (arith, length_c, d'.inside, h.sound.short)) in
                  between-above (low p) (high p) (low first) (high first) (pairs_at s (suc levels) slot) rise (omega (arith, inside.1, x, z))
            ]
