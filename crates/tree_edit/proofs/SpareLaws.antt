-- A spare row for a node that has grown, by what is known of it before.
use Rattle.std.proofs.Common.{◌≡◌, ℕ, ◌+◌, ◌<◌, ◌≤◌, length, Option, Some, ap, sym, subst, ◌∙◌, arith}
use Rattle.std.specs.Global.{Vec}
use Rattle.node_base.specs.Form.{Fits}
use Rattle.node_base.specs.declared.base_node.NodeType.{NodeType}
use Rattle.node_base.specs.declared.base_node.NodeType.TheVariants.{N48, N256}
use Rattle.node_rows.specs.Spare.{IsSpareFor}
use Rattle.node_table.specs.Shape.{grown_form}
use Rattle.spec_node.specs.TableNode.{TableNode}
use Rattle.node_table.specs.Table.{NodeTable, node_at}
use Rattle.tree_links.specs.Spares.{HasSpare, KeepsSpare}
use Rattle.tree_edit.specs.inner.Writes.{MakesRoom}

-- the largest form stays
not_largest : (f : NodeType) (count : ℕ) → grown_form f count ≡ N48 → f ≡ N256 → ⊥
not_largest f count grown is = let clash : N256 ≡ N48 = sym (ap (λ x. grown_form x count) is) ∙ grown in cc

module _ {P C : Type 0} (s g : NodeTable P) (i : ℕ) (spare : Option (Vec C)) (n : TableNode P) (here : node_at s i ≡ Some n) where
  pub spare_then : KeepsSpare s i spare → MakesRoom s g i → HasSpare g i spare
  spare_then keeps room m there = λ form short.
      let y = room n here in
      let both : Some y.0 ≡ Some m = sym y.1 ∙ there in
      let same : y.0 ≡ m = cc in
      let prefix : m.prefix ≡ n.prefix = subst (λ (x : TableNode P). x.prefix ≡ n.prefix) same y.2 in
      let children : m.children ≡ n.children = subst (λ (x : TableNode P). x.children ≡ n.children) same y.3 in
      let fits : Fits m.form (length m.children + 1) = subst (λ (x : TableNode P). Fits x.form (length x.children + 1)) same y.4 in
      let grown : m.form ≡ grown_form n.form (length n.children) = subst (λ (x : TableNode P). x.form ≡ grown_form n.form (length n.children)) same y.5 in
      let few : length m.children + 1 ≤ 48 = subst (λ f. Fits f (length m.children + 1)) form fits in
      let count : length m.children ≡ length n.children = ap length children in
      subst (λ k. IsSpareFor k spare) (sym count)
      (keeps n here (subst (λ p. length p < 7) prefix short) (not_largest n.form (length n.children) (sym grown ∙ form)) (omega (arith, few, count)))
