use Rattle.share_tree.proofs.Current.{all_on}
use Rattle.share_tree.proofs.direct.Direct.take_range_inclusive.Goals as goal

pub invariant_of-self : goal.invariant_of-self
invariant_of-self g c =
    all_on g.P.HasMeaning.meaning c.self.inside.tree c.remove_range_inclusive.new.self c.remove_range_inclusive.ensures.onward c.self.inside.seats c.self.invariant
