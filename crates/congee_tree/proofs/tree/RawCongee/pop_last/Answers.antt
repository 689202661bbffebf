use Rattle.congee_tree.proofs.LeastLaws.{popped_any_least}
use Rattle.congee_tree.proofs.tree.RawCongee.pop_last.Goals as goal

pub invariant_of-self : goal.invariant_of-self
invariant_of-self g c = popped_any_least _ _ _ _ c.self.invariant _ c.pop_last.ensures.removes c.pop_last.ensures.empty
