use Rattle.std.proofs.Common.{sym}
use Rattle.spec_node.specs.declared.child.Child.TheVariants.{Payload}
use Rattle.node_table.proofs.KindLaws.{lookup-mapped, taken_from}
use Rattle.node_table.proofs.kinds.LeafHasPayloads.take_payload.Goals as goal

pub returns-clause-before : goal.returns-clause-before
returns-clause-before g c =
    sym (lookup-mapped (λ v. Payload v) (g.H.Head.children c.args.self.now.head c.args.row.now) c.args.byte _ (sym c.take.ensures.before))

pub returns-clause-after : goal.returns-clause-after
returns-clause-after g c =
    taken_from (λ v. Payload v) _ _ _ _ (g.H.Head.children c.args.self.now.head c.args.row.now) _ c.args.byte c.take.ensures.form c.take.ensures.prefix c.take.ensures.children
