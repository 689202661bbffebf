use Rattle.tree_links.specs.SeenTable.{name_of}
use Rattle.tree_edit.proofs.SameLaws.{same_table, same_whole}
use Rattle.tree_edit.proofs.tree.Tree.trim.Goals as goal

pub invariant_of-self : goal.invariant_of-self
invariant_of-self g c =
    let s = c.self.inside.nodes.table in
    let root = name_of c.self.inside.root in
    same_whole s _ root (same_table s _ root c.self.invariant.tree c.shrink_to_fit.ensures) _ _ c.self.invariant
