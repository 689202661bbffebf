use Rattle.std.proofs.Common.{ap, refl}
use Rattle.node_base.specs.inner.Sorted.{pairs}
use Rattle.spec_node.specs.declared.child.Child.TheVariants.{Node}
use Rattle.node_table.proofs.KindLaws.{lookup-mapped_none, lookup-mapped_some, put_into}
use Rattle.node_rows.specs.declared.row_head.RowHead.{RowHead}
use Rattle.node_rows.proofs.inner_row.exchange_place.Goals as goal

pub returns-in-Ok-clause-before : goal.returns-in-Ok-clause-before
returns-in-Ok-clause-before g c = lookup-mapped_some (λ child. Node child) (pairs c.args.head.now.keys c.args.row.now.items) c.args.byte c.in-Ok.before c.in-Ok.ensures.before

pub returns-in-Ok-clause-after : goal.returns-in-Ok-clause-after
returns-in-Ok-clause-after g c =
    put_into {P = g.row.P.Denot} {C = g.row.C.Denot} (λ child. Node child) _ _ _ _ (pairs c.args.head.now.keys c.args.row.now.items) _ c.args.byte c.args.place refl (ap (λ (h : RowHead). h.base.prefix) c.in-Ok.ensures.head) c.in-Ok.ensures.children

pub returns-in-Err-clause-absent : goal.returns-in-Err-clause-absent
returns-in-Err-clause-absent g c = lookup-mapped_none (λ child. Node child) (pairs c.args.head.now.keys c.args.row.now.items) c.args.byte c.in-Err.ensures.absent
