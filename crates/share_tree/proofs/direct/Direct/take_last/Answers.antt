use Rattle.share_tree.proofs.Current.{all_on}
use Rattle.share_tree.proofs.direct.Direct.take_last.Goals as goal

pub invariant_of-self : goal.invariant_of-self
invariant_of-self g c =
    all_on g.P.HasMeaning.meaning c.self.inside.tree c.pop_last.new.self c.pop_last.ensures.onward c.self.inside.seats c.self.invariant
