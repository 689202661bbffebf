use Rattle.congee_tree.proofs.LeastLaws.{computed_least}
use Rattle.congee_tree.proofs.tree.RawCongee.compute_or_insert.Goals as goal

pub invariant_of-self : goal.invariant_of-self
invariant_of-self g c =
    let e = c.lowered-self-inside.ensures in
    computed_least _ _ _ _ _ _ c.self.invariant e.bound e.key e.fits _ _ _ _ c.compute_or_insert.ensures.computes
