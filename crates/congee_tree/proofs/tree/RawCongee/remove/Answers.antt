use Rattle.congee_tree.proofs.LeastLaws.{without_least}
use Rattle.congee_tree.proofs.tree.RawCongee.remove.Goals as goal

pub invariant_of-self : goal.invariant_of-self
invariant_of-self g c = without_least _ _ _ _ c.self.invariant c.remove.ensures.removes.pairs
