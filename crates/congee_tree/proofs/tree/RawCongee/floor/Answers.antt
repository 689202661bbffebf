use Rattle.std.proofs.Common.{◌∙◌, ap}
use Rattle.spec_map.specs.Near.{floor_of}
use Rattle.tree_edit.specs.Tree.{TreeView}
use Rattle.tree_walk.proofs.NearestLaws.{at_root}
use Rattle.congee_tree.proofs.tree.RawCongee.floor.Goals as goal

pub returns : goal.returns
returns g c =
    at_root _ _ c.table-root.ensures.tree c.args.self.now.pairs (c.table-root.ensures.pairs ∙ ap (λ (t : TreeView g.row.P.Denot g.row.A.Denot). t.pairs) c.self.view_is)
    _ (λ es. floor_of es c.args.key) c.pair_to.ensures
