use Rattle.share_faces.proofs.Numbers.{numbers_called}
use Rattle.share_faces.proofs.typed_congee.Congee.compute_if_present.Goals as goal

pub returns-clause-asked : goal.returns-clause-asked
returns-clause-asked g c = numbers_called _ _ g.M.Lent.meaning c.self.invariant.1 c.compute_if_present_always.result c.compute_if_present_always.ensures.asked
