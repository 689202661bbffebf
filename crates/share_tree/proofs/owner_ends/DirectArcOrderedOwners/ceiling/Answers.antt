use Rattle.std.proofs.Common.{ap, ◌∙◌}
use Rattle.std.specs.Arc.{arc_value}
use Rattle.spec_map.specs.Near.{ceiling_of}
use Rattle.share_tree.proofs.Ends.{ceiling_means}
use Rattle.share_tree.proofs.owner_ends.DirectArcOrderedOwners.ceiling.Goals as goal

pub returns : goal.returns
returns g c =
    rw (← c.self.view_is) (ceiling_means (λ x. arc_value x) (λ e. e.now) c.ceiling.result c.self.inside.tree.pairs c.args.key (c.ceiling.ensures ∙ ap (λ es. ceiling_of es c.args.key) c.tree.ensures.pairs))
