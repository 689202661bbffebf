use Rattle.congee_tree.proofs.LeastLaws.{inserted_least}
use Rattle.congee_tree.proofs.tree.RawCongee.insert.Goals as goal

pub invariant_of-self : goal.invariant_of-self
invariant_of-self g c =
    let e = c.lowered-self-inside.ensures in
    inserted_least _ _ _ _ _ _ c.self.invariant e.bound e.key e.fits _ _ c.insert.ensures.inserts
