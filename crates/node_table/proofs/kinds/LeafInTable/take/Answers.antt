use Rattle.std.proofs.Common.{sym}
use Rattle.spec_node.specs.declared.child.Child.TheVariants.{Payload}
use Rattle.node_table.proofs.KindLaws.{lookup-mapped_none, lookup-mapped_some, taken_from}
use Rattle.node_table.proofs.kinds.LeafInTable.take.Goals as goal

pub returns-in-Some-clause-before : goal.returns-in-Some-clause-before
returns-in-Some-clause-before g c = sym (lookup-mapped_some (λ v. Payload v) (g.H.Head.children c.args.self.now.head c.args.row.now) c.args.byte c.in-Some.payload (sym c.in-Some.ensures.before))

pub returns-in-Some-clause-after : goal.returns-in-Some-clause-after
returns-in-Some-clause-after g c = taken_from (λ v. Payload v) _ _ _ _ (g.H.Head.children c.args.self.now.head c.args.row.now) _ c.args.byte c.in-Some.ensures.form c.in-Some.ensures.prefix c.in-Some.ensures.children

pub returns-in-None-clause-before : goal.returns-in-None-clause-before
returns-in-None-clause-before g c = sym (lookup-mapped_none (λ v. Payload v) (g.H.Head.children c.args.self.now.head c.args.row.now) c.args.byte (sym c.in-None.ensures.before))

pub returns-in-None-clause-after : goal.returns-in-None-clause-after
returns-in-None-clause-after g c = taken_from (λ v. Payload v) _ _ _ _ (g.H.Head.children c.args.self.now.head c.args.row.now) _ c.args.byte c.in-None.ensures.form c.in-None.ensures.prefix c.in-None.ensures.children
