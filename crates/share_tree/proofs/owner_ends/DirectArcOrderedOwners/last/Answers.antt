use Rattle.std.proofs.Common.{ap, ◌∙◌}
use Rattle.std.specs.Arc.{arc_value}
use Rattle.spec_map.specs.Near.{last_of}
use Rattle.share_tree.proofs.Ends.{last_means}
use Rattle.share_tree.proofs.owner_ends.DirectArcOrderedOwners.last.Goals as goal

pub returns : goal.returns
returns g c =
    rw (← c.self.view_is) (last_means (λ x. arc_value x) (λ e. e.now) c.last.result c.self.inside.tree.pairs (c.last.ensures ∙ ap (λ es. last_of es) c.tree.ensures.pairs))
