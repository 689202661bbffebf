-- How many entries the nodes of a tree have.
use Rattle.std.proofs.Common.{◌≡◌, ℕ, zero, suc, ◌+◌, List, [], ◌∷◌, ◌++◌, length, arith, length-append}
use Rattle.std.specs.Prelude.{sum_by}
use Rattle.std.proofs.lemmas.List.Sums.{sum_by-cons, sum_by-append}
use Rattle.spec_node.specs.TableNode.{Child}
use Rattle.spec_node.specs.declared.child.Child.TheVariants.{Payload, Node}
use Rattle.node_table.specs.Table.{NodeTable, NodeInfo, node_info, pairs_of, pairs_at, nodes_of, nodes_at, IsTree, AreChildren}

module _ {P : Type 0} where
  -- each entry is a pair or a node
  abbrev IsCounted : NodeTable P → ℕ → List ℕ → ℕ → Type 0
  IsCounted s levels q slot = sum_by (λ n. n.count) (nodes_at s levels q slot) + 1 ≡ length (pairs_at s levels slot) + length (nodes_at s levels q slot)

  children_counted : (s : NodeTable P) (levels : ℕ) → ((q : List ℕ) (slot : ℕ) → IsTree s levels q slot → IsCounted s levels q slot)
      → (p : List ℕ) (es : List (ℕ × Child P)) → AreChildren (λ r j. IsTree s levels r j) p es
      → length es + sum_by (λ n. n.count) (nodes_of (λ e j. nodes_at s levels e j) p es)
      ≡ length (pairs_of (λ j. pairs_at s levels j) p es) + length (nodes_of (λ e j. nodes_at s levels e j) p es)
  children_counted s levels ih p [] h = omega arith
  children_counted s levels ih p ((b, Payload v) ∷ es) h = let rest = children_counted s levels ih p es h.1 in omega arith
  children_counted s levels ih p ((b, Node j) ∷ es) h =
      let here : List NodeInfo = nodes_at s levels (p ++ b ∷ []) j in
      let others : List NodeInfo = nodes_of (λ e i. nodes_at s levels e i) p es in
      let rest = children_counted s levels ih p es h.1 in
      let first = ih (p ++ b ∷ []) j h.0 in
      let sums = sum_by-append (λ (n : NodeInfo). n.count) here others in
      let nodes = length-append here others in
      let pairs = length-append (pairs_at s levels j) (pairs_of (λ i. pairs_at s levels i) p es) in
      omega arith

  pub entries_counted : (s : NodeTable P) (levels : ℕ) (q : List ℕ) (slot : ℕ) → IsTree s levels q slot → IsCounted s levels q slot
  entries_counted s zero q slot h = absurd h
  entries_counted s (suc levels) q slot h =
      let rest = children_counted s levels (entries_counted s levels) h.node.prefix h.node.children h.children in
      let sums = sum_by-cons (λ (n : NodeInfo). n.count) (node_info q h.node) (nodes_of (λ e j. nodes_at s levels e j) h.node.prefix h.node.children) in
      rw h.here (omega arith)
