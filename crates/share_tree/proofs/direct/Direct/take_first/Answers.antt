use Rattle.share_tree.proofs.Current.{all_on}
use Rattle.share_tree.proofs.direct.Direct.take_first.Goals as goal

pub invariant_of-self : goal.invariant_of-self
invariant_of-self g c =
    all_on g.P.HasMeaning.meaning c.self.inside.tree c.pop_first.new.self c.pop_first.ensures.onward c.self.inside.seats c.self.invariant
