use Rattle.std.proofs.Common.{◌^◌, subst}
use Rattle.spec_map.specs.Map.{Rises}
use Rattle.tree_edit.proofs.CountLaws.{is_map}
use Rattle.congee_tree.proofs.by_number.extract_run.Goals as goal

pub invariant_of-tree : goal.invariant_of-tree
invariant_of-tree g c = subst (λ m. Rises 0 (2 ^ 64) m) c.table.ensures.pairs (is_map _ _ c.table.ensures.tree)
