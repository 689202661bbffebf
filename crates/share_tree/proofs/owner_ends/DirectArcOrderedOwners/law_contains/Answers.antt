use Rattle.std.proofs.Common.{◌^◌}
use Rattle.std.specs.Arc.{arc_value}
use Rattle.node_table.proofs.KindLaws.{Rises-mapped}
use Rattle.share_tree.proofs.owner_ends.DirectArcOrderedOwners.law_contains.Goals as goal

pub returns-clause-ordered : goal.returns-clause-ordered
returns-clause-ordered g c =
    rw (← c.self.view_is) (Rises-mapped (λ x. arc_value x) 0 (2 ^ 64) c.self.inside.tree.pairs c.is_ordered.ensures)
