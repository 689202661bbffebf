use Rattle.share_tree.proofs.Current.{all_on}
use Rattle.share_tree.proofs.ordered.Direct+u64+A.take_each.Goals as goal

pub invariant_of-self : goal.invariant_of-self
invariant_of-self g c =
    all_on _ c.self.inside.tree c.extract_range.new.self c.extract_range.ensures.onward c.self.inside.seats c.self.invariant

pub returns-clause-calls : goal.returns-clause-calls
returns-clause-calls g c = rw (← c.self.view_is) c.extract_range.ensures.calls
