use Rattle.share_tree.proofs.Onward.{onward_all}
use Rattle.share_tree.proofs.counted.Counted.remove_range_inclusive.Goals as goal

pub returns-clause-onward : goal.returns-clause-onward
returns-clause-onward g c =
    rw (← c.self.view_is) (onward_all g.P.HasMeaning.meaning _ _ c.raise_all.ensures.small c.raise_all.ensures.all)
