use Rattle.std.proofs.Common.{◌∙◌, ap}
use Rattle.spec_map.specs.Near.{ceiling_of}
use Rattle.tree_edit.specs.Tree.{TreeView}
use Rattle.tree_walk.proofs.NearestLaws.{at_root}
use Rattle.congee_tree.proofs.tree.RawCongee.ceiling.Goals as goal

pub returns : goal.returns
returns g c =
    at_root _ _ c.table-root.ensures.tree c.args.self.now.pairs (c.table-root.ensures.pairs ∙ ap (λ (t : TreeView g.row.P.Denot g.row.A.Denot). t.pairs) c.self.view_is)
    _ (λ es. ceiling_of es c.args.key) c.pair_from.ensures
