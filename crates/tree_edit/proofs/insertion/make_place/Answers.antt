use Rattle.std.proofs.Common.{ap, ◌∙◌}
use Rattle.node_table.specs.Table.{node_at}
use Rattle.tree_links.specs.SeenTable.{name_of}
use Rattle.tree_edit.proofs.SpareLaws.{spare_then}
use Rattle.tree_edit.proofs.insertion.make_place.Goals as goal

pub returns-clause-spare : goal.returns-clause-spare
returns-clause-spare g c =
    let n = c.requires.counted in
    let here = ap (λ s. node_at s (name_of c.args.slot)) c.reserve.ensures.table ∙ n.here in
    spare_then c.reserve.new.self.table _ _ _ n.node here c.in_ok-spare.ensures c.in_default.ensures.ok
