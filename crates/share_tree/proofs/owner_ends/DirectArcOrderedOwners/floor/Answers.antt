use Rattle.std.proofs.Common.{ap, ◌∙◌}
use Rattle.std.specs.Arc.{arc_value}
use Rattle.spec_map.specs.Near.{floor_of}
use Rattle.share_tree.proofs.Ends.{floor_means}
use Rattle.share_tree.proofs.owner_ends.DirectArcOrderedOwners.floor.Goals as goal

pub returns : goal.returns
returns g c =
    rw (← c.self.view_is) (floor_means (λ x. arc_value x) (λ e. e.now) c.floor.result c.self.inside.tree.pairs c.args.key (c.floor.ensures ∙ ap (λ es. floor_of es c.args.key) c.tree.ensures.pairs))
