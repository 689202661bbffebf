-- What a write of one node in its slot does to its subtree.
use Rattle.std.proofs.Common.{◌≡◌, ℕ, suc, ◌<◌, ◌≤◌, ◌≢◌, List, [], ◌∷◌, ◌++◌, length, Some, refl, ap, sym, subst, ◌∙◌, arith, inl, inr, length-append}
use Rattle.std.proofs.lemmas.Bool.{lt-ltb, le-ltb, eq-eqb, ne_eqb, cases_order}
use Rattle.node_table.proofs.BeginLaws.{after}
use Rattle.spec_map.specs.Map.{lookup, put}
use Rattle.spec_node.specs.Key.{low, high, Begins}
use Rattle.node_table.proofs.ChildrenLaws as laws
use Rattle.node_table.specs.Table.{IsSound}
use Rattle.spec_node.specs.TableNode.{TableNode, Child}
use Rattle.node_table.specs.Table.{NodeTable, node_at, pairs_of, pairs_at, IsChild, AreChildren, IsTree}
use Rattle.node_table.proofs.TableLaws.{under, tree_rises, all_rise, same_pairs}
use Rattle.node_table.proofs.DownLaws.{KeepsBelow, Kept, Same, kept_each, frame}
use Rattle.node_table.proofs.EachLaws.{each}

module _ {P : Type 0} where
  pub AreChildren-put : (below : List ℕ → ℕ → Type 0) (p : List ℕ) (es : List (ℕ × Child P)) (b : ℕ) (c : Child P) → AreChildren below p es → IsChild below p b c → AreChildren below p (put es b c)
  AreChildren-put below p [] b c h i = (i, tt)
  AreChildren-put below p (e ∷ es) b c h i =
      elim (cases_order e.0 b) [
        | inl same ↦ rw (le-ltb e.0 b (omega arith), eq-eqb e.0 b same) (i, h.1)
        | inr (inl less) ↦ rw (lt-ltb e.0 b less) (h.0, AreChildren-put below p es b c h.1 i)
        | inr (inr more) ↦ rw (le-ltb e.0 b (omega arith), ne_eqb e.0 b (omega arith)) (i, h)
      ]

  -- every node of s but the one in this slot is in t unchanged
  abbrev pub KeepsSlots : ℕ → NodeTable P → NodeTable P → Type 0
  KeepsSlots slot s t = (i : ℕ) (m : TableNode P) → i ≢ slot → node_at s i ≡ Some m → node_at t i ≡ Some m

  -- so the subtrees of the node in that slot are unchanged
  pub keeps_children : (s t : NodeTable P) (slot b : ℕ) (n : TableNode P) → node_at s slot ≡ Some n → KeepsSlots slot s t → KeepsBelow (n.prefix ++ b ∷ []) s t
  keeps_children s t slot b n here k i m there begins =
      k i m (λ same.
      let both : Some n ≡ Some m = sym here ∙ subst (λ x. node_at s x ≡ Some m) same there in
      let is : n ≡ m = cc in
      let g : Begins (n.prefix ++ b ∷ []) n.prefix = subst (λ (x : TableNode P). Begins (n.prefix ++ b ∷ []) x.prefix) (sym is) begins in
      let l = simp (length-append, length-append) at (ap length (after g).is) in omega arith) there

  pub kept_children : (s t : NodeTable P) (levels slot : ℕ) (n : TableNode P) → node_at s slot ≡ Some n → KeepsSlots slot s t → (es : List (ℕ × Child P)) → AreChildren (λ r j. IsTree s levels r j) n.prefix es → Kept s t levels n.prefix es
  kept_children s t levels slot n here k es h =
      kept_each s t levels n.prefix es (each (λ r j. IsTree s levels r j) (λ r j. Same s t levels r j) n.prefix es
      (λ b j tree. frame s t levels (n.prefix ++ b ∷ []) j tree (keeps_children s t slot b n here k)) h)

  -- equations on plain lists
  pub Are-same : (below : List ℕ → ℕ → Type 0) (p q : List ℕ) (xs ys : List (ℕ × Child P)) → p ≡ q → xs ≡ ys → AreChildren below q ys → AreChildren below p xs
  Are-same below p q xs ys e f h = rw (e, f) h

  pub pairs-same : (below : ℕ → List (ℕ × P)) (p q : List ℕ) (xs ys : List (ℕ × Child P)) → p ≡ q → xs ≡ ys → pairs_of below p xs ≡ pairs_of below q ys
  pairs-same below p q xs ys e f = rw (e, f) refl

  -- a child put into the node in its slot
  pub write : (s t : NodeTable P) (levels : ℕ) (q : List ℕ) (slot b k : ℕ) (c : Child P) (v : P) (m : TableNode P) (h : IsTree s (suc levels) q slot)
      → KeepsSlots slot s t → node_at t slot ≡ Some m → IsSound m → m.prefix ≡ h.node.prefix → m.children ≡ put h.node.children b c
      → IsChild (λ r j. IsTree t levels r j) h.node.prefix b c
      → under t levels h.node.prefix b c ≡ put (laws.pairs_at (under t levels h.node.prefix) h.node.prefix b (lookup h.node.children b)) k v
      → low (h.node.prefix ++ b ∷ []) ≤ k → k < high (h.node.prefix ++ b ∷ [])
      → IsTree t (suc levels) q slot × (pairs_at t (suc levels) slot ≡ put (pairs_at s (suc levels) slot) k v)
  write s t levels q slot b k c v m h keeps there sound same put_is child pairs at_least below =
      let n = h.node in
      let p = n.prefix in
      let kept = kept_children s t levels slot n h.here keeps n.children h.children in
      let all : AreChildren (λ r j. IsTree t levels r j) p (put n.children b c) = AreChildren-put (λ r j. IsTree t levels r j) p n.children b c kept.0 child in
      let rise = all_rise t levels (tree_rises t levels) p n.children kept.0 in
      let new = laws.pairs_of-put (under t levels p) p 0 n.children b k c v h.sound.short h.sound.ordered rise at_least below pairs in
      let list = pairs-same (λ j. pairs_at t levels j) m.prefix p m.children (put n.children b c) same put_is
      ∙ same_pairs t levels p (put n.children b c) ∙ new ∙ ap (λ x. put x k v) (sym (same_pairs t levels p n.children) ∙ kept.1) in (
        record { node = m; here = there; begins = subst (λ x. Begins q x) (sym same) h.begins; sound = sound; children = Are-same (λ r j. IsTree t levels r j) m.prefix p m.children (put n.children b c) same put_is all },
        rw (there, h.here) list,
      )
