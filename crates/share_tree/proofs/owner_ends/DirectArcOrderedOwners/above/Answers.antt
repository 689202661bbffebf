use Rattle.std.proofs.Common.{ap, ◌∙◌}
use Rattle.std.specs.Arc.{arc_value}
use Rattle.spec_map.specs.Near.{above_of}
use Rattle.share_tree.proofs.Ends.{above_means}
use Rattle.share_tree.proofs.owner_ends.DirectArcOrderedOwners.above.Goals as goal

pub returns : goal.returns
returns g c =
    rw (← c.self.view_is) (above_means (λ x. arc_value x) (λ e. e.now) c.above.result c.self.inside.tree.pairs c.args.key (c.above.ensures ∙ ap (λ es. above_of es c.args.key) c.tree.ensures.pairs))
