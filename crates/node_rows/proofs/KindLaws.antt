-- A node by its kind.
use Rattle.std.proofs.Common.{◌≡◌, ℕ, List, length, sym, subst, ◌∙◌, ap, refl}
use Rattle.node_base.specs.Form.{Fits, smaller_form}
use Rattle.node_base.specs.declared.base_node.NodeType.{NodeType}
use Rattle.spec_node.specs.TableNode.{TableNodeOf}
use Rattle.spec_node.specs.declared.child.Child.{Child as ChildOf}
use Rattle.node_rows.specs.declared.row_node.RowKind.{RowKind}
use Rattle.node_rows.specs.inner.Rows.{node_of_kind, IsOfKind}

-- what the node is, by its kind
pub here : {P C : Type 0} (n : TableNodeOf P C) (kind k : RowKind P C) → node_of_kind kind ≡ n → kind ≡ k → n ≡ node_of_kind k
here n kind k e i = sym e ∙ ap node_of_kind i

pub node_same : {P C : Type 0} (f g : NodeType) (p q : List ℕ) (xs ys : List (ℕ × ChildOf P C)) → f ≡ g → p ≡ q → xs ≡ ys → ◌≡◌ {A = TableNodeOf P C} (record { form = f; prefix = p; children = xs }) (record { form = g; prefix = q; children = ys })
node_same f g p q xs ys a b c = rw (a, b, c) refl

pub of_kind : {P C : Type 0} (kind k : RowKind P C) → IsOfKind kind → kind ≡ k → IsOfKind k
of_kind {P} {C} kind k h i = subst (λ (x : RowKind P C). IsOfKind x) i h

-- a node's children are few enough for its smaller form
pub few_here : {P C : Type 0} (n : TableNodeOf P C) (kind k : RowKind P C) → node_of_kind kind ≡ n → kind ≡ k → Fits (smaller_form n.form) (length n.children) → Fits (smaller_form (node_of_kind k).form) (length (node_of_kind k).children)
few_here {P} {C} n kind k e i h =
    subst (λ (x : RowKind P C). Fits (smaller_form (node_of_kind x).form) (length (node_of_kind x).children)) i
    (subst (λ (m : TableNodeOf P C). Fits (smaller_form m.form) (length m.children)) (sym e) h)
