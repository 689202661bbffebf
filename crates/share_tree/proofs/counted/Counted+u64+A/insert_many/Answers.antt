use Rattle.share_tree.proofs.Inserted.{fewer_inserted}
use Rattle.share_tree.proofs.Onward.{onward_all}
use Rattle.share_tree.proofs.counted.Counted+u64+A.insert_many.Goals as goal

pub returns-clause-onward : goal.returns-clause-onward
returns-clause-onward g c =
    rw (← c.self.view_is) (onward_all _ _ _ c.raise_all.ensures.small c.raise_all.ensures.all)

pub returns-clause-err : goal.returns-clause-err
returns-clause-err g c =
    rw (← c.self.view_is) (fewer_inserted c.args.many.now _ _ c.insert_many-inserted.result c.insert_many-inserted.ensures.err c.insert_many-inserted.ensures.refused)
