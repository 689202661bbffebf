use Rattle.std.proofs.Common.{ap, ◌∙◌}
use Rattle.std.specs.Arc.{arc_value}
use Rattle.spec_map.specs.Near.{below_of}
use Rattle.share_tree.proofs.Ends.{below_means}
use Rattle.share_tree.proofs.owner_ends.DirectArcOrderedOwners.below.Goals as goal

pub returns : goal.returns
returns g c =
    rw (← c.self.view_is) (below_means (λ x. arc_value x) (λ e. e.now) c.below.result c.self.inside.tree.pairs c.args.key (c.below.ensures ∙ ap (λ es. below_of es c.args.key) c.tree.ensures.pairs))
