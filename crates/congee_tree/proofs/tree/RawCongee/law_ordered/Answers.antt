use Rattle.tree_edit.proofs.CountLaws.{is_map}
use Rattle.congee_tree.proofs.tree.RawCongee.law_ordered.Goals as goal

pub returns : goal.returns
returns g c = rw (← c.self.view_is, ← c.table.ensures.pairs) (is_map _ _ c.table.ensures.tree)
