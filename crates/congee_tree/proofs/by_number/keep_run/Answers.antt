use Rattle.std.proofs.Common.{◌^◌, subst}
use Rattle.spec_map.specs.Map.{Rises}
use Rattle.tree_edit.proofs.CountLaws.{is_map}
use Rattle.congee_tree.proofs.by_number.keep_run.Goals as goal

pub invariant_of-tree : goal.invariant_of-tree
invariant_of-tree g c = subst (λ m. Rises 0 (2 ^ 64) m) c.table.ensures.pairs (is_map _ _ c.table.ensures.tree)

pub returns-clause-asks : goal.returns-clause-asks
returns-clause-asks g c = rw (← c.tree.view_is) c.keep_run-last.ensures.asks
