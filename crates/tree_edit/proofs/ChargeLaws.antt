-- What the calls do to the counts of nodes, and to what is charged.
use Rattle.std.proofs.Common.{◌≡◌, ℕ, zero, suc, ◌+◌, ◌<◌, ◌≤◌, List, [], length, Some, refl, subst, arith, inl, inr}
use Rattle.spec_node.specs.Key.{AreBytes}
use Rattle.node_table.specs.Shape.{grown_form}
use Rattle.node_table.specs.Table.{NodeTable, NodeInfo, node_at, nodes_of, nodes_at, IsTree}
use Rattle.spec_node.specs.TableNode.{TableNode}
use Rattle.node_base.specs.declared.base_node.NodeType.{NodeType}
use Rattle.node_base.specs.declared.base_node.NodeType.TheVariants.{N4}
use Rattle.node_table.proofs.NodesLaws.{below}
use Rattle.tree_path.specs.Charge.{total}
use Rattle.tree_path.specs.inner.Supply.{with_form, one, IsCounted, IsCountedAt, CountsGrown}
use Rattle.tree_path.specs.inner.Descent.{PathTo, EndsAt, Differs, Absent, EndPlace}
use Rattle.tree_path.specs.inner.Root.{depth}
use Rattle.tree_edit.specs.inner.Writes.{Adds, Splits}
use Rattle.tree_path.specs.declared.supply.FormCounts.{FormCounts}
use Rattle.tree_edit.proofs.ShapeLaws.{along_nodes, add_at, split_at}
use Rattle.tree_edit.proofs.WeightLaws.{total-gone, total-fills, total-adds, total-splits, counts_itself, counted_trade, counted_trade_more, counted_two}

module _ {P : Type 0} (s : NodeTable P) (root : ℕ) (key : List ℕ) (place : EndPlace P) (a : EndsAt s root key place) (forms : FormCounts) (h : IsCounted forms (nodes_at s depth [] root)) where
  abbrev old : List NodeInfo
  old = nodes_at s depth [] root

  end_from : (above levels slot : ℕ) (q : List ℕ) (n : TableNode P) → node_at s slot ≡ Some n → PathTo s root key above levels q slot → IsTree s levels q slot → (w : NodeType → ℕ) → w n.form ≤ total w old
  end_from above zero slot q n here path tree w = absurd tree
  end_from above (suc levels) slot q n here path tree w =
      let all = along_nodes s s root key above (suc levels) slot q path (λ i m there other. there) in
      let gone = total-gone w old old (nodes_at s (suc levels) q slot) (nodes_at s (suc levels) q slot) all in
      let is : total w (nodes_at s (suc levels) q slot) ≡ w n.form + total w (nodes_of (below s levels) n.prefix n.children) = rw here refl in
      omega (arith, gone, is)

  -- the node where the path ends is counted
  pub end_counted : IsCountedAt s place.slot forms
  end_counted =
      let w = a.leads in
      let f = a.node.form in
      record { node = a.node; here = a.here; counted = omega (arith, h f, counts_itself f, end_from place.above w.levels place.slot w.q a.node a.here w.path w.tree (one f)) }

  module _ (bytes : AreBytes key) (full : length key ≡ 8) (t : NodeTable P) (v : P) where
    abbrev new : List NodeInfo
    new = nodes_at t depth [] root

    module _ (b : ℕ) (forms' : FormCounts) (is : place.end ≡ Absent b) (adds : Adds s t place.slot key b v) where
      -- a pair more in the leaf
      pub fill_counted : length a.node.prefix ≡ 7 → CountsGrown s place.slot forms forms' → IsCounted forms' new
      fill_counted seven grown = elim (add_at s t root key bytes full v place a b is adds) [
        | inl x ↦
            counted_trade forms old h forms' new a.node.form (grown_form a.node.form (length a.node.children)) (grown a.node a.here)
            (λ f. subst (λ k. total (one f) new + one f a.node.form ≡ total (one f) old + one f (grown_form a.node.form k)) x.count
            (subst (λ k. total (one f) new + one f k ≡ total (one f) old + one f (grown_form k x.shape.leaf.count)) x.form (total-fills (one f) old key new x.shape)))
        | inr x ↦ absurd (x.inner seven)
      ]

      -- a leaf more below the node
      pub add_counted : length a.node.prefix < 7 → CountsGrown s place.slot (with_form N4 forms) forms' → IsCounted forms' new
      add_counted inner grown = elim (add_at s t root key bytes full v place a b is adds) [
        | inl x ↦ absurd (omega (arith, inner, x.seven))
        | inr x ↦
            counted_trade_more forms old h forms' new a.node.form (grown_form a.node.form (length a.node.children)) N4 (grown a.node a.here)
            (λ f. subst (λ k. total (one f) new + one f a.node.form ≡ total (one f) old + (one f (grown_form a.node.form k) + one f N4)) x.count
            (subst (λ k. total (one f) new + one f k ≡ total (one f) old + (one f (grown_form k x.shape.node.count) + one f N4)) x.form (total-adds (one f) old key new x.shape)))
      ]

    -- a node and a leaf more
    pub split_counted : (at : ℕ) (forms' : FormCounts) → place.end ≡ Differs at → Splits s t place.slot key at v → forms' ≡ with_form N4 (with_form N4 forms) → IsCounted forms' new
    split_counted at forms' is parts more =
        let x = split_at s t root key bytes full v place a at is parts in
        counted_two forms old h forms' new N4 N4 more (λ f. total-splits (one f) old key new x)
