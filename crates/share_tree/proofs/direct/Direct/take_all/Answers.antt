use Rattle.share_tree.proofs.Current.{all_on}
use Rattle.share_tree.proofs.direct.Direct.take_all.Goals as goal

pub invariant_of-self : goal.invariant_of-self
invariant_of-self g c =
    all_on g.P.HasMeaning.meaning c.self.inside.tree c.clear.new.self c.clear.ensures.onward c.self.inside.seats c.self.invariant
