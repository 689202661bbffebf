-- What a change in the subtree under one byte does to the whole.
use Rattle.std.proofs.Common.{◌≡◌, ℕ, zero, suc, ◌+◌, ◌<◌, ◌≤◌, ◌≢◌, List, [], ◌∷◌, ◌++◌, length, Some, refl, ap, sym, subst, ◌∙◌, arith, inl, inr, append_assoc, length-append}
use Rattle.std.proofs.lemmas.Bool.{eq-eqb, ne_eqb, cases_order}
use Rattle.node_table.proofs.BeginLaws.{after, begins_append, begins_by}
use Rattle.spec_map.specs.Map.{lookup, Rises}
use Rattle.spec_node.specs.Key.{low, high, Begins}
use Rattle.spec_map.proofs.MapLaws.{lookup-below}
use Rattle.spec_map.proofs.LocalLaws.{IsLocal}
use Rattle.node_table.proofs.KeyLaws.{byte_order, room-positive}
use Rattle.node_table.proofs.ChildrenLaws as laws
use Rattle.spec_node.specs.TableNode.{TableNode, Child}
use Rattle.node_table.specs.Table.{NodeTable, node_at, pairs_under, pairs_of, pairs_at, IsChild, AreChildren, IsTree}
use Rattle.spec_node.specs.declared.child.Child.TheVariants.{Payload, Node}
use Rattle.node_table.proofs.TableLaws.{under, tree_rises, all_rise, same_pairs}
use Rattle.node_table.proofs.EachLaws.{each, each_from, pairs_of-each}

pub Begins-trans : (p q r : List ℕ) → Begins p q → Begins q r → Begins p r
Begins-trans p q r h k = let x = after h in let y = after k in begins_by p (x.rest ++ y.rest) r (y.is ∙ ap (λ t. t ++ y.rest) x.is ∙ append_assoc p x.rest y.rest)

-- a list begins with one byte alone after p
pub one_byte : (p r : List ℕ) (b c : ℕ) → Begins (p ++ b ∷ []) r → Begins (p ++ c ∷ []) r → b ≡ c
one_byte p r b c h k =
    let x = after h in
    let y = after k in
    let e : p ++ b ∷ x.rest ≡ p ++ c ∷ y.rest = sym (append_assoc p (b ∷ []) x.rest) ∙ sym x.is ∙ y.is ∙ append_assoc p (c ∷ []) y.rest in
    go p b c x.rest y.rest e
  where
    go : (p : List ℕ) (b c : ℕ) (x y : List ℕ) → p ++ b ∷ x ≡ p ++ c ∷ y → b ≡ c
    go [] b c x y e = cc
    go (z ∷ p) b c x y e = go p b c x y (cc)

module _ {P : Type 0} where
  -- every node of s whose prefix begins with q is in t too
  abbrev pub KeepsBelow : List ℕ → NodeTable P → NodeTable P → Type 0
  KeepsBelow q s t = (slot : ℕ) (n : TableNode P) → node_at s slot ≡ Some n → Begins q n.prefix → node_at t slot ≡ Some n

  -- every other node of s is in t
  abbrev pub KeepsOthers : List ℕ → NodeTable P → NodeTable P → Type 0
  KeepsOthers q s t = (slot : ℕ) (n : TableNode P) → node_at s slot ≡ Some n → (Begins q n.prefix → ⊥) → node_at t slot ≡ Some n

  pub record Same (s t : NodeTable P) (levels : ℕ) (q : List ℕ) (slot : ℕ) : Type 0 where
    pub tree : IsTree t levels q slot
    pub pairs : pairs_at t levels slot ≡ pairs_at s levels slot

  pub keeps_longer : (q r : List ℕ) (s t : NodeTable P) → Begins q r → KeepsBelow q s t → KeepsBelow r s t
  keeps_longer q r s t b k slot n here begins = k slot n here (Begins-trans q r n.prefix b begins)

  abbrev pub Kept : NodeTable P → NodeTable P → ℕ → List ℕ → List (ℕ × Child P) → Type 0
  Kept s t levels p es = AreChildren (λ r j. IsTree t levels r j) p es × (pairs_of (λ j. pairs_at t levels j) p es ≡ pairs_of (λ j. pairs_at s levels j) p es)

  -- all children are kept where each is
  pub kept_each : (s t : NodeTable P) (levels : ℕ) (p : List ℕ) (es : List (ℕ × Child P)) → AreChildren (λ r j. Same s t levels r j) p es → Kept s t levels p es
  kept_each s t levels p es h = (
    each (λ r j. Same s t levels r j) (λ r j. IsTree t levels r j) p es (λ b j same. same.tree) h,
    pairs_of-each (λ j. pairs_at t levels j) (λ j. pairs_at s levels j) p es
        (each (λ r j. Same s t levels r j) (λ r j. pairs_at t levels j ≡ pairs_at s levels j) p es (λ b j same. same.pairs) h),
  )

  pub frame : (s t : NodeTable P) (levels : ℕ) (q : List ℕ) (slot : ℕ) → IsTree s levels q slot → KeepsBelow q s t → Same s t levels q slot
  frame s t zero q slot h k = absurd h
  frame s t (suc levels) q slot h k =
      let n = h.node in
      let there = k slot n h.here h.begins in
      let longer : (b : ℕ) → KeepsBelow (n.prefix ++ b ∷ []) s t = λ b. keeps_longer n.prefix (n.prefix ++ b ∷ []) s t (begins_append n.prefix (b ∷ [])) (keeps_longer q n.prefix s t h.begins k) in
      let c = kept_each s t levels n.prefix n.children
      (each (λ r j. IsTree s levels r j) (λ r j. Same s t levels r j) n.prefix n.children (λ b j tree. frame s t levels (n.prefix ++ b ∷ []) j tree (longer b)) h.children) in
      record {
        tree = record { node = n; here = there; begins = h.begins; sound = h.sound; children = c.0 };
        pairs = rw (there, h.here) c.1;
      }

  -- under the other bytes nothing changed
  pub keeps_sibling : (s t : NodeTable P) (p : List ℕ) (b c : ℕ) → b ≢ c → KeepsOthers (p ++ b ∷ []) s t → KeepsBelow (p ++ c ∷ []) s t
  keeps_sibling s t p b c d k slot n here begins = k slot n here (λ other. d (one_byte p n.prefix b c other begins))

  siblings : (s t : NodeTable P) (levels : ℕ) (p : List ℕ) (b : ℕ) → KeepsOthers (p ++ b ∷ []) s t → (d : ℕ) (es : List (ℕ × Child P)) → b < d → Rises d 256 es → AreChildren (λ r j. IsTree s levels r j) p es → Kept s t levels p es
  siblings s t levels p b k d es l o h =
      kept_each s t levels p es (each_from (λ r j. IsTree s levels r j) (λ r j. Same s t levels r j) p d es o
      (λ c j from tree. frame s t levels (p ++ c ∷ []) j tree (keeps_sibling s t p b c (omega arith) k)) h)

  pub child_rises : (s : NodeTable P) (levels : ℕ) (p : List ℕ) (b : ℕ) (c : Child P) → IsChild (λ r j. IsTree s levels r j) p b c → Rises (low (p ++ b ∷ [])) (high (p ++ b ∷ [])) (under s levels p b c)
  child_rises s levels p b (Payload v) h = let r = room-positive 8 (p ++ b ∷ []) in (omega arith, omega arith, tt)
  child_rises s levels p b (Node j) h = tree_rises s levels (p ++ b ∷ []) j h

  rest_rises : (s : NodeTable P) (levels : ℕ) (p : List ℕ) (b d : ℕ) (es : List (ℕ × Child P)) → b < d → length p ≤ 7 → Rises d 256 es → AreChildren (λ r j. IsTree s levels r j) p es
      → Rises (high (p ++ b ∷ [])) (high p) (pairs_of (λ j. pairs_at s levels j) p es)
  rest_rises s levels p b d es l short o h =
      rw (same_pairs s levels p es) (laws.children_rise (under s levels p) p d es short o (all_rise s levels (tree_rises s levels) p es h) (high (p ++ b ∷ [])) (λ c le lt. byte_order 8 p b c (omega arith) (omega arith)))

  module _ (s t : NodeTable P) (levels : ℕ) (p : List ℕ) (b j k : ℕ) (f : List (ℕ × P) → List (ℕ × P)) (local : IsLocal k f) (short : length p ≤ 7) (others : KeepsOthers (p ++ b ∷ []) s t)
      (tree : IsTree t levels (p ++ b ∷ []) j) (pairs : pairs_at t levels j ≡ f (pairs_at s levels j)) (at_least : low (p ++ b ∷ []) ≤ k) (below : k < high (p ++ b ∷ [])) where
    pub down_children : (d : ℕ) (es : List (ℕ × Child P)) → Rises d 256 es → AreChildren (λ r i. IsTree s levels r i) p es → lookup es b ≡ Some (Node j)
        → AreChildren (λ r i. IsTree t levels r i) p es × (pairs_of (λ i. pairs_at t levels i) p es ≡ f (pairs_of (λ i. pairs_at s levels i) p es))
    down_children d [] o h found = absurd (cc)
    down_children d (e ∷ es) o h found =
        elim (cases_order e.0 b) [
          | inl same ↦
              let found' : Some e.1 ≡ Some (Node j) = rw (eq-eqb e.0 b same) at found in
              let is : e.1 ≡ Node j = cc in
              let rest = siblings s t levels p b others (e.0 + 1) es (omega arith) o.2 h.1 in
              let rises = rest_rises s levels p b (e.0 + 1) es (omega arith) short o.2 h.1 in (
                (subst (λ c. IsChild (λ r i. IsTree t levels r i) p e.0 c) (sym is) (subst (λ x. IsTree t levels (p ++ x ∷ []) j) (sym same) tree), rest.0),
                subst (λ c. pairs_under (λ i. pairs_at t levels i) p e.0 c ++ pairs_of (λ i. pairs_at t levels i) p es ≡ f (pairs_under (λ i. pairs_at s levels i) p e.0 c ++ pairs_of (λ i. pairs_at s levels i) p es)) (sym is)
                    (ap (λ x. x ++ pairs_of (λ i. pairs_at t levels i) p es) pairs ∙ ap (λ x. f (pairs_at s levels j) ++ x) rest.1
                    ∙ sym (local.left (high (p ++ b ∷ [])) (high p) (pairs_at s levels j) (pairs_of (λ i. pairs_at s levels i) p es) rises below)),
              )
          | inr (inl less) ↦
              let found' = rw (ne_eqb e.0 b (omega arith)) at found in
              let rest = down_children (e.0 + 1) es o.2 h.1 found' in
              let differ : b ≢ e.0 = omega arith in
              let here = one_child e.0 e.1 differ h.0 in
              let apart = byte_order 8 p e.0 b less (omega arith) in (
                (here.0, rest.0),
                ap (λ x. x ++ pairs_of (λ i. pairs_at t levels i) p es) here.1 ∙ ap (λ x. under s levels p e.0 e.1 ++ x) rest.1
                    ∙ sym (local.right (low (p ++ e.0 ∷ [])) (high (p ++ e.0 ∷ [])) (under s levels p e.0 e.1) (pairs_of (λ i. pairs_at s levels i) p es) (child_rises s levels p e.0 e.1 h.0) (omega arith)),
              )
          | inr (inr more) ↦
              let found' = rw (ne_eqb e.0 b (omega arith), lookup-below (e.0 + 1) 256 es b o.2 (omega arith)) at found in absurd (cc)
        ]
      where
        one_child : (c : ℕ) (x : Child P) → b ≢ c → IsChild (λ r i. IsTree s levels r i) p c x → IsChild (λ r i. IsTree t levels r i) p c x × (under t levels p c x ≡ under s levels p c x)
        one_child c (Payload w) differ h = (h, refl)
        one_child c (Node i) differ h = let f = frame s t levels (p ++ c ∷ []) i h (keeps_sibling s t p b c differ others) in (f.tree, f.pairs)

  -- the whole subtree, where the one under its node's byte b changed
  pub down : (s t : NodeTable P) (levels : ℕ) (q : List ℕ) (slot b j k : ℕ) (f : List (ℕ × P) → List (ℕ × P)) → IsLocal k f → (h : IsTree s (suc levels) q slot) → lookup h.node.children b ≡ Some (Node j)
      → KeepsOthers (h.node.prefix ++ b ∷ []) s t → IsTree t levels (h.node.prefix ++ b ∷ []) j → pairs_at t levels j ≡ f (pairs_at s levels j)
      → low (h.node.prefix ++ b ∷ []) ≤ k → k < high (h.node.prefix ++ b ∷ [])
      → IsTree t (suc levels) q slot × (pairs_at t (suc levels) slot ≡ f (pairs_at s (suc levels) slot)) × KeepsOthers q s t
  down s t levels q slot b j k f local h found others tree pairs at_least below =
      let n = h.node in
      let c = down_children s t levels n.prefix b j k f local h.sound.short others tree pairs at_least below 0 n.children h.sound.ordered h.children found in
      let itself : Begins (n.prefix ++ b ∷ []) n.prefix → ⊥ = λ g. let l = simp (length-append, length-append) at (ap length (after g).is) in omega arith in
      let there = others slot n h.here itself in (
        record { node = n; here = there; begins = h.begins; sound = h.sound; children = c.0 },
        rw (there, h.here) c.1,
        λ i m here not_below. others i m here (λ g. not_below (Begins-trans q n.prefix m.prefix h.begins (Begins-trans n.prefix (n.prefix ++ b ∷ []) m.prefix (begins_append n.prefix (b ∷ [])) g))),
      )
