use Rattle.node_base.specs.inner.Sorted.{pairs}
use Rattle.spec_node.specs.declared.child.Child.{Child as ChildOf}
use Rattle.spec_node.specs.declared.child.Child.TheVariants.{Node, Payload}
use Rattle.node_table.proofs.KindLaws.{one_more}
use Rattle.node_table.proofs.tree_node.TreeNode.grow.Goals as goal
use Rattle.node_table.proofs.tree_node.TreeNode.grow.Goals.{in-Inner4+in-Ok, in-Inner16+in-Ok-grown_from_parts, in-Inner48+in-Ok-grown_from, in-Leaf4+in-Ok-grown_from-2, in-Leaf16+in-Ok-grown_from_parts-2, in-Leaf48+in-Ok-grown_from-3}

pub returns-clause-room : goal.returns-clause-room
returns-clause-room g c = elim c.match-self.branch [
  | in-Inner4+in-Ok w ↦ rw w.grown-is (one_more {D = ChildOf g.row.P.Denot g.row.C.Denot} (λ child. Node child) (pairs w.in-Ok.head.keys w.in-Ok.row.items) 16 w.in-Ok.ensures.room)
  | in-Inner16+in-Ok-grown_from_parts w ↦ rw w.grown-is (one_more {D = ChildOf g.row.P.Denot g.row.C.Denot} (λ child. Node child) w.in-Ok-grown_from_parts.node.children 48 w.in-Ok-grown_from_parts.ensures.room)
  | in-Inner48+in-Ok-grown_from w ↦ rw w.grown-is tt
  | in-Leaf4+in-Ok-grown_from-2 w ↦ rw w.grown-is (one_more {D = ChildOf g.row.P.Denot g.row.C.Denot} (λ v. Payload v) (pairs w.in-Ok-grown_from-2.head.keys w.in-Ok-grown_from-2.row.items) 16 w.in-Ok-grown_from-2.ensures.room)
  | in-Leaf16+in-Ok-grown_from_parts-2 w ↦ rw w.grown-is (one_more {D = ChildOf g.row.P.Denot g.row.C.Denot} (λ v. Payload v) w.in-Ok-grown_from_parts-2.node.children 48 w.in-Ok-grown_from_parts-2.ensures.room)
  | in-Leaf48+in-Ok-grown_from-3 w ↦ rw w.grown-is tt
]
