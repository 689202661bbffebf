use Rattle.std.proofs.Common.{◌∙◌}
use Rattle.tree_edit.proofs.SameLaws.{moved_view, moved_whole}
use Rattle.tree_edit.proofs.tree.Tree.compact_if_sparse.Goals as goal

pub invariant_of-self : goal.invariant_of-self
invariant_of-self g c = moved_whole _ _ _ _ c.compact_if_sparse-self-inside.ensures _ _ c.self.invariant

pub returns : goal.returns
returns g c = moved_view _ _ _ _ c.compact_if_sparse-self-inside.ensures _ ∙ c.self.view_is
