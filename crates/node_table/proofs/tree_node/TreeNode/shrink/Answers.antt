use Rattle.std.proofs.Common.{arith, ◌≡◌, ℕ, ◌<◌, List, length, sym, subst, ◌∙◌, ap, refl}
use Rattle.node_base.specs.Form.{Fits, smaller_form}
use Rattle.node_base.specs.inner.Sorted.{pairs}
use Rattle.spec_node.specs.TableNode.{TableNodeOf}
use Rattle.spec_node.specs.declared.child.Child.{Child as ChildOf}
use Rattle.spec_node.specs.declared.child.Child.TheVariants.{Node, Payload}
use Rattle.node_table.specs.declared.tree_node.NodeKind.{NodeKind}
use Rattle.node_base.specs.declared.base_node.NodeType.{NodeType}
use Rattle.node_table.specs.inner.Kinds.{mapped, table_node, IsOfKind}
use Rattle.node_table.proofs.KindLaws.{length-mapped}
use Rattle.node_table.proofs.tree_node.TreeNode.shrink.Goals as goal
use Rattle.node_table.proofs.tree_node.TreeNode.shrink.Goals.{in-Inner16, in-Inner48+in-Ok, in-Inner256+in-Ok-smaller_48, in-Leaf16, in-Leaf48+in-Ok-smaller_16, in-Leaf256+in-Ok-smaller_48-2}

-- what the node is, by its kind
here : {P C : Type 0} (n : TableNodeOf P C) (kind k : NodeKind P C) → table_node kind ≡ n → kind ≡ k → n ≡ table_node k
here n kind k e i = sym e ∙ ap table_node i

node_same : {P C : Type 0} (f g : NodeType) (p q : List ℕ) (xs ys : List (ℕ × ChildOf P C)) → f ≡ g → p ≡ q → xs ≡ ys → ◌≡◌ {A = TableNodeOf P C} (record { form = f; prefix = p; children = xs }) (record { form = g; prefix = q; children = ys })
node_same f g p q xs ys a b c = rw (a, b, c) refl

of_kind : {P C : Type 0} (kind k : NodeKind P C) → IsOfKind kind → kind ≡ k → IsOfKind k
of_kind {P} {C} kind k h i = subst (λ (x : NodeKind P C). IsOfKind x) i h

-- a node's children are few enough for its smaller form
few_here : {P C : Type 0} (n : TableNodeOf P C) (kind k : NodeKind P C) → table_node kind ≡ n → kind ≡ k → Fits (smaller_form n.form) (length n.children) → Fits (smaller_form (table_node k).form) (length (table_node k).children)
few_here {P} {C} n kind k e i h =
    subst (λ (x : NodeKind P C). Fits (smaller_form (table_node x).form) (length (table_node x).children)) i
    (subst (λ (m : TableNodeOf P C). Fits (smaller_form m.form) (length m.children)) (sym e) h)

pub smaller_4-head-requires-clause-few : goal.smaller_4-head-requires-clause-few
smaller_4-head-requires-clause-few g c =
    let f = few_here _ _ _ c.self.view_is c.in-Inner16.is c.requires in
    omega (arith, f, length-mapped {D = ChildOf g.row.P.Denot g.row.C.Denot} (λ child. Node child) (pairs c.in-Inner16.old.head.keys c.in-Inner16.row.items))

pub smaller_16-requires-clause-few : goal.smaller_16-requires-clause-few
smaller_16-requires-clause-few g c =
    let f = few_here _ _ _ c.self.view_is c.in-Inner48.is c.requires in
    omega (arith, f, length-mapped {D = ChildOf g.row.P.Denot g.row.C.Denot} (λ child. Node child) c.in-Inner48.old.head.node.children)

pub smaller_48-requires-clause-few : goal.smaller_48-requires-clause-few
smaller_48-requires-clause-few g c =
    let f = few_here _ _ _ c.self.view_is c.in-Inner256.is c.requires in
    omega (arith, f, length-mapped {D = ChildOf g.row.P.Denot g.row.C.Denot} (λ child. Node child) c.in-Inner256.old.head.node.children)

pub smaller_4-head-requires-in-Leaf16-clause-few : goal.smaller_4-head-requires-in-Leaf16-clause-few
smaller_4-head-requires-in-Leaf16-clause-few g c =
    let f = few_here _ _ _ c.self.view_is c.in-Leaf16.is c.requires in
    omega (arith, f, length-mapped {D = ChildOf g.row.P.Denot g.row.C.Denot} (λ v. Payload v) (pairs c.in-Leaf16.old.head.keys c.in-Leaf16.row.items))

pub smaller_16-requires-in-Leaf48-clause-few : goal.smaller_16-requires-in-Leaf48-clause-few
smaller_16-requires-in-Leaf48-clause-few g c =
    let f = few_here _ _ _ c.self.view_is c.in-Leaf48.is c.requires in
    omega (arith, f, length-mapped {D = ChildOf g.row.P.Denot g.row.C.Denot} (λ v. Payload v) c.in-Leaf48.old.head.node.children)

pub smaller_48-requires-in-Leaf256-clause-few : goal.smaller_48-requires-in-Leaf256-clause-few
smaller_48-requires-in-Leaf256-clause-few g c =
    let f = few_here _ _ _ c.self.view_is c.in-Leaf256.is c.requires in
    omega (arith, f, length-mapped {D = ChildOf g.row.P.Denot g.row.C.Denot} (λ v. Payload v) c.in-Leaf256.old.head.node.children)

pub invariant_of-self-2 : goal.invariant_of-self-2
invariant_of-self-2 g c = elim c.match-self.branch [
  | in-Inner16 w ↦ rw w.shrunk-is (w.smaller_4-head.ensures.node, subst (λ (p : List ℕ). length p < 7) (sym w.smaller_4-head.ensures.prefix) (of_kind _ _ c.self.invariant w.in-Inner16.is).1)
  | in-Inner48+in-Ok w ↦ rw w.shrunk-is (w.in-Ok.ensures.node, subst (λ (p : List ℕ). length p < 7) (sym w.in-Ok.ensures.prefix) (of_kind _ _ c.self.invariant w.in-Inner48.is).1)
  | in-Inner256+in-Ok-smaller_48 w ↦ rw w.shrunk-is (tt, subst (λ (p : List ℕ). length p < 7) (sym w.in-Ok-smaller_48.ensures.prefix) (of_kind _ _ c.self.invariant w.in-Inner256.is).1)
  | in-Leaf16 w ↦ rw w.shrunk-is (w.smaller_4-head-in-Leaf16.ensures.node, subst (λ (p : List ℕ). length p ≡ 7) (sym w.smaller_4-head-in-Leaf16.ensures.prefix) (of_kind _ _ c.self.invariant w.in-Leaf16.is).1)
  | in-Leaf48+in-Ok-smaller_16 w ↦ rw w.shrunk-is (w.in-Ok-smaller_16.ensures.node, subst (λ (p : List ℕ). length p ≡ 7) (sym w.in-Ok-smaller_16.ensures.prefix) (of_kind _ _ c.self.invariant w.in-Leaf48.is).1)
  | in-Leaf256+in-Ok-smaller_48-2 w ↦ rw w.shrunk-is (tt, subst (λ (p : List ℕ). length p ≡ 7) (sym w.in-Ok-smaller_48-2.ensures.prefix) (of_kind _ _ c.self.invariant w.in-Leaf256.is).1)
]

pub returns-clause-ok : goal.returns-clause-ok
returns-clause-ok g c = elim c.match-self.branch [
  | in-Inner16 w ↦
      let at = here _ _ _ c.self.view_is w.in-Inner16.is in
      rw w.shrunk-is (node_same _ _ _ _ _ _ (sym (ap (λ (m : TableNodeOf g.row.P.Denot g.row.C.Denot). smaller_form m.form) at)) (w.smaller_4-head.ensures.prefix ∙ sym (ap (λ (m : TableNodeOf g.row.P.Denot g.row.C.Denot). m.prefix) at)) (ap (λ xs. mapped {D = ChildOf g.row.P.Denot g.row.C.Denot} (λ child. Node child) xs) w.smaller_4-head.ensures.children ∙ sym (ap (λ (m : TableNodeOf g.row.P.Denot g.row.C.Denot). m.children) at)))
  | in-Inner48+in-Ok w ↦
      let at = here _ _ _ c.self.view_is w.in-Inner48.is in
      rw w.shrunk-is (node_same _ _ _ _ _ _ (sym (ap (λ (m : TableNodeOf g.row.P.Denot g.row.C.Denot). smaller_form m.form) at)) (w.in-Ok.ensures.prefix ∙ sym (ap (λ (m : TableNodeOf g.row.P.Denot g.row.C.Denot). m.prefix) at)) (ap (λ xs. mapped {D = ChildOf g.row.P.Denot g.row.C.Denot} (λ child. Node child) xs) w.in-Ok.ensures.children ∙ sym (ap (λ (m : TableNodeOf g.row.P.Denot g.row.C.Denot). m.children) at)))
  | in-Inner256+in-Ok-smaller_48 w ↦
      let at = here _ _ _ c.self.view_is w.in-Inner256.is in
      rw w.shrunk-is (node_same _ _ _ _ _ _ (sym (ap (λ (m : TableNodeOf g.row.P.Denot g.row.C.Denot). smaller_form m.form) at)) (w.in-Ok-smaller_48.ensures.prefix ∙ sym (ap (λ (m : TableNodeOf g.row.P.Denot g.row.C.Denot). m.prefix) at)) (ap (λ xs. mapped {D = ChildOf g.row.P.Denot g.row.C.Denot} (λ child. Node child) xs) w.in-Ok-smaller_48.ensures.children ∙ sym (ap (λ (m : TableNodeOf g.row.P.Denot g.row.C.Denot). m.children) at)))
  | in-Leaf16 w ↦
      let at = here _ _ _ c.self.view_is w.in-Leaf16.is in
      rw w.shrunk-is (node_same _ _ _ _ _ _ (sym (ap (λ (m : TableNodeOf g.row.P.Denot g.row.C.Denot). smaller_form m.form) at)) (w.smaller_4-head-in-Leaf16.ensures.prefix ∙ sym (ap (λ (m : TableNodeOf g.row.P.Denot g.row.C.Denot). m.prefix) at)) (ap (λ xs. mapped {D = ChildOf g.row.P.Denot g.row.C.Denot} (λ v. Payload v) xs) w.smaller_4-head-in-Leaf16.ensures.children ∙ sym (ap (λ (m : TableNodeOf g.row.P.Denot g.row.C.Denot). m.children) at)))
  | in-Leaf48+in-Ok-smaller_16 w ↦
      let at = here _ _ _ c.self.view_is w.in-Leaf48.is in
      rw w.shrunk-is (node_same _ _ _ _ _ _ (sym (ap (λ (m : TableNodeOf g.row.P.Denot g.row.C.Denot). smaller_form m.form) at)) (w.in-Ok-smaller_16.ensures.prefix ∙ sym (ap (λ (m : TableNodeOf g.row.P.Denot g.row.C.Denot). m.prefix) at)) (ap (λ xs. mapped {D = ChildOf g.row.P.Denot g.row.C.Denot} (λ v. Payload v) xs) w.in-Ok-smaller_16.ensures.children ∙ sym (ap (λ (m : TableNodeOf g.row.P.Denot g.row.C.Denot). m.children) at)))
  | in-Leaf256+in-Ok-smaller_48-2 w ↦
      let at = here _ _ _ c.self.view_is w.in-Leaf256.is in
      rw w.shrunk-is (node_same _ _ _ _ _ _ (sym (ap (λ (m : TableNodeOf g.row.P.Denot g.row.C.Denot). smaller_form m.form) at)) (w.in-Ok-smaller_48-2.ensures.prefix ∙ sym (ap (λ (m : TableNodeOf g.row.P.Denot g.row.C.Denot). m.prefix) at)) (ap (λ xs. mapped {D = ChildOf g.row.P.Denot g.row.C.Denot} (λ v. Payload v) xs) w.in-Ok-smaller_48-2.ensures.children ∙ sym (ap (λ (m : TableNodeOf g.row.P.Denot g.row.C.Denot). m.children) at)))
]
