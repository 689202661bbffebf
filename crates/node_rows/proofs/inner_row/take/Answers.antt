use Rattle.std.proofs.Common.{refl, sym}
use Rattle.spec_node.specs.declared.child.Child.TheVariants.{Node}
use Rattle.node_table.proofs.KindLaws.{lookup-mapped_none, lookup-mapped_some, taken_from}
use Rattle.node_base.specs.inner.Sorted.{pairs}
use Rattle.node_rows.proofs.inner_row.take.Goals as goal

pub returns-in-Some-clause-before : goal.returns-in-Some-clause-before
returns-in-Some-clause-before g c = sym (lookup-mapped_some (λ child. Node child) (pairs c.args.head.now.keys c.args.row.now.items) c.args.byte c.in-Some.place (sym c.in-Some.ensures.before))

pub returns-in-Some-clause-after : goal.returns-in-Some-clause-after
returns-in-Some-clause-after g c = taken_from (λ child. Node child) _ _ _ _ (pairs c.args.head.now.keys c.args.row.now.items) _ c.args.byte refl c.in-Some.ensures.prefix c.in-Some.ensures.children

pub returns-in-None-clause-before : goal.returns-in-None-clause-before
returns-in-None-clause-before g c = sym (lookup-mapped_none (λ child. Node child) (pairs c.args.head.now.keys c.args.row.now.items) c.args.byte (sym c.in-None.ensures.before))

pub returns-in-None-clause-after : goal.returns-in-None-clause-after
returns-in-None-clause-after g c = taken_from (λ child. Node child) _ _ _ _ (pairs c.args.head.now.keys c.args.row.now.items) _ c.args.byte refl c.in-None.ensures.prefix c.in-None.ensures.children
