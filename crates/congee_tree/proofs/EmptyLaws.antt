-- A tree without pairs.
use Rattle.std.proofs.Common.{◌≡◌, ℕ, ◌+◌, List, [], ◌∷◌, ◌++◌, length, refl, ap, sym, ◌∙◌, inl, inr, arith}
use Rattle.node_base.specs.Form.{stated_size}
use Rattle.node_base.specs.declared.base_node.NodeType.{NodeType}
use Rattle.node_base.specs.declared.base_node.NodeType.TheVariants.{N4, N16, N48, N256}
use Rattle.node_table.specs.Table.{NodeTable, node_info, pairs_of, pairs_at, nodes_of, nodes_at, AreChildren, IsTree}
use Rattle.spec_node.specs.TableNode.{Child}
use Rattle.spec_node.specs.declared.child.Child.TheVariants.{Payload, Node}
use Rattle.spec_map.specs.Map.{Pairs}
use Rattle.tree_path.specs.Charge.{charge_of}
use Rattle.tree_path.specs.inner.Root.{depth}
use Rattle.tree_edit.specs.Reduce.{AreFilled}
use Rattle.tree_edit.specs.Tree.{root_alone}
use Rattle.tree_edit.proofs.FilledLaws.{filled_left, filled_pairs, empty_alone}

-- the one form of this size
largest : (f : NodeType) → stated_size f + 0 ≡ 2104 → f ≡ N256
largest N4 is = absurd (omega arith)
largest N16 is = absurd (omega arith)
largest N48 is = absurd (omega arith)
largest N256 is = refl

longer : (p : List ℕ) (b : ℕ) → p ++ b ∷ [] ≡ [] → ⊥
longer [] b e = cc
longer (x ∷ p) b e = cc

module _ {P : Type 0} (s : NodeTable P) where
  -- where no node but the root is empty, a node without pairs below it has no children
  childless : (levels : ℕ) (p : List ℕ) (es : List (ℕ × Child P)) → AreChildren (λ r j. IsTree s levels r j) p es → AreFilled (nodes_of (λ e j. nodes_at s levels e j) p es) → pairs_of (λ j. pairs_at s levels j) p es ≡ [] → length es ≡ 0
  childless levels p [] a f e = refl
  childless levels p ((b, Payload v) ∷ es) a f e = absurd (cc)
  childless levels p ((b, Node j) ∷ es) a f e =
      let some = filled_pairs s levels (p ++ b ∷ []) j a.0 (longer p b) (filled_left (nodes_at s levels (p ++ b ∷ []) j) (nodes_of (λ r i. nodes_at s levels r i) p es) f) in
      let no : (some.first ∷ some.rest) ++ pairs_of (λ i. pairs_at s levels i) p es ≡ [] =
      ap (λ (t : Pairs P). t ++ pairs_of (λ i. pairs_at s levels i) p es) (sym some.is) ∙ e in
      absurd (cc)

  -- it has the root alone
  pub alone : (root : ℕ) → IsTree s depth [] root → AreFilled (nodes_at s depth [] root) → pairs_at s depth root ≡ [] → charge_of (nodes_at s depth [] root) ≡ 2104 → nodes_at s depth [] root ≡ root_alone
  unfolding depth
  alone root h f none bytes =
      let n = h.node in
      let one : nodes_at s 8 [] root ≡ node_info [] n ∷ [] = empty_alone s 7 root h f none in
      let g : AreFilled (node_info [] n ∷ nodes_of (λ e j. nodes_at s 7 e j) n.prefix n.children) = rw h.here at f in
      let empty : pairs_of (λ j. pairs_at s 7 j) n.prefix n.children ≡ [] = rw h.here at none in
      let count : length n.children ≡ 0 = childless 7 n.prefix n.children h.children g.1 empty in
      let size : stated_size n.form + 0 ≡ 2104 = ap charge_of (sym one) ∙ bytes in
      let form : n.form ≡ N256 = largest n.form size in
      let prefix : n.prefix ≡ [] = elim g.0 as (λ z. n.prefix ≡ []) [ inl is ↦ is | inr more ↦ absurd (omega (arith, more, count)) ] in
      one ∙ (λ i. record { edge = []; prefix = prefix i; form = form i; count = count i } ∷ [])
