use Rattle.share_tree.proofs.Current.{all_on}
use Rattle.share_tree.proofs.ordered.Direct+u64+A.take_unless.Goals as goal

pub invariant_of-self : goal.invariant_of-self
invariant_of-self g c =
    all_on _ c.self.inside.tree c.retain.new.self c.retain.ensures.onward c.self.inside.seats c.self.invariant

pub returns-clause-retains : goal.returns-clause-retains
returns-clause-retains g c = rw (← c.self.view_is) c.retain.ensures.retains
