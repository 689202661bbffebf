use Rattle.std.proofs.Common.{ap, ◌∙◌}
use Rattle.spec_node.specs.declared.child.Child.TheVariants.{Payload}
use Rattle.node_table.proofs.LastLaws.{last-none, last-found, found-present}
use Rattle.std.specs.Option.{is_some}
use Rattle.std.proofs.lemmas.Bool.{false≢true}
use Rattle.node_table.proofs.kinds.LeafInTable.last_below.Goals as goal

pub returns-in_default : goal.returns-in_default
returns-in_default g c = last-none (λ v. Payload v) (g.H.Head.children c.args.self.now.head c.args.row.now) c.args.to c.in_default.ensures

pub unreachable-requires : goal.unreachable-requires
unreachable-requires g c =
    let some = found-present (g.H.Head.children c.args.self.now.head c.args.row.now) c.args.to _ c.in-None.ensures.ascending c.in-Some.ensures in
    false≢true (ap is_some c.in-None.ensures.found ∙ some)

pub returns : goal.returns
returns g c = last-found (λ v. Payload v) (g.H.Head.children c.args.self.now.head c.args.row.now) c.args.to _ _ c.in-Some-get_child.ensures.ascending c.in-Some.ensures c.in-Some-get_child.ensures.found
