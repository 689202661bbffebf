use Rattle.std.proofs.Common.{arith, ◌≡◌, ◌<◌, List, ℕ, length, sym, subst, ◌∙◌, ap}
use Rattle.node_base.specs.Form.{next_form}
use Rattle.node_base.specs.inner.Sorted.{pairs}
use Rattle.node_forms.proofs.SortedLaws.{length-sorted}
use Rattle.spec_node.specs.TableNode.{TableNodeOf}
use Rattle.spec_node.specs.declared.child.Child.{Child as ChildOf}
use Rattle.spec_node.specs.declared.child.Child.TheVariants.{Node, Payload}
use Rattle.node_table.specs.inner.Kinds.{mapped}
use Rattle.node_table.proofs.KindLaws.{one_more}
use Rattle.node_rows.proofs.KindLaws.{here, node_same, of_kind}
use Rattle.node_rows.proofs.row_node.RowNode.grow.Goals as goal
use Rattle.node_rows.proofs.row_node.RowNode.grow.Goals.{in-Inner4+in-Ok, in-Inner16, in-Inner48+in-Ok-larger_256, in-Leaf4+in-Ok-grown_from, in-Leaf16+in-Ok-grown_from_parts, in-Leaf48+in-Ok-grown_from-2}

pub invariant_of-self-2 : goal.invariant_of-self-2
invariant_of-self-2 g c = elim c.match-self.branch [
  | in-Inner4+in-Ok w ↦ rw w.grown-is (w.in-Ok.ensures.node, subst (λ (p : List ℕ). length p < 7) (sym w.in-Ok.ensures.prefix) (of_kind _ _ c.self.invariant w.in-Inner4.is).1)
  | in-Inner16 w ↦
      let h = of_kind _ _ c.self.invariant w.in-Inner16.is in
      rw (w.grown-is, w.replace.ensures.value)
      ((w.head_48-head.ensures.node, (h.0.2, omega (arith, h.0.0.within, h.0.2))), subst (λ (p : List ℕ). length p < 7) (sym w.head_48-head.ensures.prefix) h.1)
  | in-Inner48+in-Ok-larger_256 w ↦ rw w.grown-is (tt, subst (λ (p : List ℕ). length p < 7) (sym w.in-Ok-larger_256.ensures.prefix) (of_kind _ _ c.self.invariant w.in-Inner48.is).1)
  | in-Leaf4+in-Ok-grown_from w ↦ rw w.grown-is (w.in-Ok-grown_from.ensures.node, subst (λ (p : List ℕ). length p ≡ 7) (sym w.in-Ok-grown_from.ensures.prefix) (of_kind _ _ c.self.invariant w.in-Leaf4.is).1)
  | in-Leaf16+in-Ok-grown_from_parts w ↦ rw w.grown-is (tt, subst (λ (p : List ℕ). length p ≡ 7) (sym w.in-Ok-grown_from_parts.ensures.prefix) (of_kind _ _ c.self.invariant w.in-Leaf16.is).1)
  | in-Leaf48+in-Ok-grown_from-2 w ↦ rw w.grown-is (tt, subst (λ (p : List ℕ). length p ≡ 7) (sym w.in-Ok-grown_from-2.ensures.prefix) (of_kind _ _ c.self.invariant w.in-Leaf48.is).1)
]

pub returns-clause-ok : goal.returns-clause-ok
returns-clause-ok g c = elim c.match-self.branch [
  | in-Inner4+in-Ok w ↦
      let at = here _ _ _ c.self.view_is w.in-Inner4.is in
      rw w.grown-is (node_same _ _ _ _ _ _ (sym (ap (λ (m : TableNodeOf g.row.P.Denot g.row.C.Denot). next_form m.form) at)) (w.in-Ok.ensures.prefix ∙ sym (ap (λ (m : TableNodeOf g.row.P.Denot g.row.C.Denot). m.prefix) at)) (ap (λ xs. mapped {D = ChildOf g.row.P.Denot g.row.C.Denot} (λ child. Node child) xs) w.in-Ok.ensures.children ∙ sym (ap (λ (m : TableNodeOf g.row.P.Denot g.row.C.Denot). m.children) at)))
  | in-Inner16 w ↦
      let at = here _ _ _ c.self.view_is w.in-Inner16.is in
      rw (w.grown-is, w.replace.ensures.value) (node_same _ _ _ _ _ _ (sym (ap (λ (m : TableNodeOf g.row.P.Denot g.row.C.Denot). next_form m.form) at)) (w.head_48-head.ensures.prefix ∙ sym (ap (λ (m : TableNodeOf g.row.P.Denot g.row.C.Denot). m.prefix) at)) (ap (λ xs. mapped {D = ChildOf g.row.P.Denot g.row.C.Denot} (λ child. Node child) xs) w.head_48-head.ensures.children ∙ sym (ap (λ (m : TableNodeOf g.row.P.Denot g.row.C.Denot). m.children) at)))
  | in-Inner48+in-Ok-larger_256 w ↦
      let at = here _ _ _ c.self.view_is w.in-Inner48.is in
      rw w.grown-is (node_same _ _ _ _ _ _ (sym (ap (λ (m : TableNodeOf g.row.P.Denot g.row.C.Denot). next_form m.form) at)) (w.in-Ok-larger_256.ensures.prefix ∙ sym (ap (λ (m : TableNodeOf g.row.P.Denot g.row.C.Denot). m.prefix) at)) (ap (λ xs. mapped {D = ChildOf g.row.P.Denot g.row.C.Denot} (λ child. Node child) xs) w.in-Ok-larger_256.ensures.children ∙ sym (ap (λ (m : TableNodeOf g.row.P.Denot g.row.C.Denot). m.children) at)))
  | in-Leaf4+in-Ok-grown_from w ↦
      let at = here _ _ _ c.self.view_is w.in-Leaf4.is in
      rw w.grown-is (node_same _ _ _ _ _ _ (sym (ap (λ (m : TableNodeOf g.row.P.Denot g.row.C.Denot). next_form m.form) at)) (w.in-Ok-grown_from.ensures.prefix ∙ sym (ap (λ (m : TableNodeOf g.row.P.Denot g.row.C.Denot). m.prefix) at)) (ap (λ xs. mapped {D = ChildOf g.row.P.Denot g.row.C.Denot} (λ v. Payload v) xs) w.in-Ok-grown_from.ensures.children ∙ sym (ap (λ (m : TableNodeOf g.row.P.Denot g.row.C.Denot). m.children) at)))
  | in-Leaf16+in-Ok-grown_from_parts w ↦
      let at = here _ _ _ c.self.view_is w.in-Leaf16.is in
      rw w.grown-is (node_same _ _ _ _ _ _ (sym (ap (λ (m : TableNodeOf g.row.P.Denot g.row.C.Denot). next_form m.form) at)) (w.in-Ok-grown_from_parts.ensures.prefix ∙ sym (ap (λ (m : TableNodeOf g.row.P.Denot g.row.C.Denot). m.prefix) at)) (ap (λ xs. mapped {D = ChildOf g.row.P.Denot g.row.C.Denot} (λ v. Payload v) xs) w.in-Ok-grown_from_parts.ensures.children ∙ sym (ap (λ (m : TableNodeOf g.row.P.Denot g.row.C.Denot). m.children) at)))
  | in-Leaf48+in-Ok-grown_from-2 w ↦
      let at = here _ _ _ c.self.view_is w.in-Leaf48.is in
      rw w.grown-is (node_same _ _ _ _ _ _ (sym (ap (λ (m : TableNodeOf g.row.P.Denot g.row.C.Denot). next_form m.form) at)) (w.in-Ok-grown_from-2.ensures.prefix ∙ sym (ap (λ (m : TableNodeOf g.row.P.Denot g.row.C.Denot). m.prefix) at)) (ap (λ xs. mapped {D = ChildOf g.row.P.Denot g.row.C.Denot} (λ v. Payload v) xs) w.in-Ok-grown_from-2.ensures.children ∙ sym (ap (λ (m : TableNodeOf g.row.P.Denot g.row.C.Denot). m.children) at)))
]

pub returns-clause-room : goal.returns-clause-room
returns-clause-room g c = elim c.match-self.branch [
  | in-Inner4+in-Ok w ↦ rw w.grown-is (one_more {D = ChildOf g.row.P.Denot g.row.C.Denot} (λ child. Node child) (pairs w.in-Ok.head.keys w.in-Ok.row.items) 16 w.in-Ok.ensures.room)
  | in-Inner16 w ↦
      let s = (of_kind _ _ c.self.invariant w.in-Inner16.is).0.0 in
      rw (w.grown-is, w.replace.ensures.value) (one_more {D = ChildOf g.row.P.Denot g.row.C.Denot} (λ child. Node child) (pairs w.head_48-head.result.keys w.in-Inner16.row.items) 48 (omega (arith, ap length w.head_48-head.ensures.children, length-sorted s, s.within)))
  | in-Inner48+in-Ok-larger_256 w ↦ rw w.grown-is tt
  | in-Leaf4+in-Ok-grown_from w ↦ rw w.grown-is (one_more {D = ChildOf g.row.P.Denot g.row.C.Denot} (λ v. Payload v) (pairs w.in-Ok-grown_from.head.keys w.in-Ok-grown_from.row.items) 16 w.in-Ok-grown_from.ensures.room)
  | in-Leaf16+in-Ok-grown_from_parts w ↦ rw w.grown-is (one_more {D = ChildOf g.row.P.Denot g.row.C.Denot} (λ v. Payload v) w.in-Ok-grown_from_parts.node.children 48 w.in-Ok-grown_from_parts.ensures.room)
  | in-Leaf48+in-Ok-grown_from-2 w ↦ rw w.grown-is tt
]
