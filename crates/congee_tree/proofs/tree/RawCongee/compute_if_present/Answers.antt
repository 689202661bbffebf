use Rattle.congee_tree.proofs.LeastLaws.{present_least}
use Rattle.congee_tree.proofs.tree.RawCongee.compute_if_present.Goals as goal

pub invariant_of-self : goal.invariant_of-self
invariant_of-self g c =
    let e = c.lowered-self-inside.ensures in
    present_least _ _ _ _ _ _ c.self.invariant e.bound e.key e.fits _ _ _ _ c.compute_if_present.ensures.computes

pub returns-clause-computes : goal.returns-clause-computes
returns-clause-computes g c = rw (← c.self.view_is) c.compute_if_present.ensures.computes
