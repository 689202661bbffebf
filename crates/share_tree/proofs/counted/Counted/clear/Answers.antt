use Rattle.share_tree.proofs.Onward.{onward_all}
use Rattle.share_tree.proofs.counted.Counted.clear.Goals as goal

pub invariant_of-self : goal.invariant_of-self
invariant_of-self g c = rw c.clear.ensures.pairs tt

pub returns-clause-onward : goal.returns-clause-onward
returns-clause-onward g c =
    rw (← c.self.view_is) (onward_all g.P.HasMeaning.meaning _ _ c.raise_all.ensures.small c.raise_all.ensures.all)
