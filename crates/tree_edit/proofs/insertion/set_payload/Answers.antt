use Rattle.tree_edit.proofs.AloneLaws.{pair_was, pair_changes}
use Rattle.tree_edit.proofs.LeafLaws.{sets_ok}
use Rattle.tree_edit.proofs.insertion.set_payload.Goals as goal

pub returns-in-Leaf-clause-set : goal.returns-in-Leaf-clause-set
returns-in-Leaf-clause-set g c = rw c.in-Leaf.is (sets_ok _ _ _ _ _ _ c.set_payload.ensures.set)

pub returns-in-Pair-clause-set : goal.returns-in-Pair-clause-set
returns-in-Pair-clause-set g c =
    let x = c.change_pair.ensures.changes in
    rw c.in-Pair.is (pair_was _ _ _ _ _ _ x, pair_changes _ _ _ _ _ _ x)
