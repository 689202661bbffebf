use Rattle.share_tree.proofs.Current.{all_on}
use Rattle.share_tree.proofs.ordered.Direct+u64+A.put_many.Goals as goal

pub invariant_of-self : goal.invariant_of-self
invariant_of-self g c =
    all_on _ c.self.inside.tree c.insert_many.new.self c.insert_many.ensures.onward c.self.inside.seats c.self.invariant
