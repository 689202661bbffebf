use Rattle.std.proofs.Common.{◌∙◌, length, ap, subst, refl, arith}
use Rattle.spec_map.specs.Map.{lookup, put}
use Rattle.node_base.specs.inner.Sorted.{pairs}
use Rattle.node_forms.proofs.SortedLaws.{length-sorted}
use Rattle.spec_node.specs.declared.child.Child.{Child as ChildOf}
use Rattle.spec_node.specs.declared.child.Child.TheVariants.{Node}
use Rattle.node_table.proofs.KindLaws.{length-mapped, mapped-absent, put_into}
use Rattle.node_rows.specs.Spare.{IsSpareFor}
use Rattle.node_rows.proofs.inner_row.insert.Goals as goal

pub make_room-requires-clause-spare : goal.make_room-requires-clause-spare
make_room-requires-clause-spare g c =
    let es = pairs c.args.head.now.keys c.args.row.now.items in
    subst (λ n. IsSpareFor n c.args.spare) (length-mapped {D = ChildOf g.row.P.Denot g.row.C.Denot} (λ child. Node child) es ∙ length-sorted c.requires.kind.0.0.0) c.requires.spare

pub add-requires-clause-absent : goal.add-requires-clause-absent
add-requires-clause-absent g c =
    let es = pairs c.args.head.now.keys c.args.row.now.items in
    ap (λ xs. lookup (pairs c.args.head.now.keys xs) c.args.byte) c.make_room.ensures.same ∙ mapped-absent (λ child. Node child) es c.args.byte c.requires.absent

pub add-requires-clause-few : goal.add-requires-clause-few
add-requires-clause-few g c =
    let es = pairs c.args.head.now.keys c.args.row.now.items in
    omega (arith, c.requires.room, length-mapped {D = ChildOf g.row.P.Denot g.row.C.Denot} (λ child. Node child) es, length-sorted c.requires.kind.0.0.0, ap length c.make_room.ensures.same)

pub returns-clause-after : goal.returns-clause-after
returns-clause-after g c =
    rw c.in-Node.is
    (put_into {P = g.row.P.Denot} {C = g.row.C.Denot} (λ child. Node child) _ _ _ _ (pairs c.args.head.now.keys c.args.row.now.items) _ c.args.byte c.in-Node.place refl c.add.ensures.prefix (c.add.ensures.children ∙ ap (λ xs. put (pairs c.args.head.now.keys xs) c.args.byte c.in-Node.place) c.make_room.ensures.same))
