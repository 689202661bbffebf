use Rattle.share_tree.proofs.Onward.{onward_all}
use Rattle.share_tree.proofs.counted.Counted+u64+A.retain.Goals as goal

pub returns-clause-onward : goal.returns-clause-onward
returns-clause-onward g c =
    rw (← c.self.view_is) (onward_all _ _ _ c.raise_all.ensures.small c.raise_all.ensures.all)

pub returns-clause-retains : goal.returns-clause-retains
returns-clause-retains g c = rw (← c.self.view_is) c.retain.ensures.retains
