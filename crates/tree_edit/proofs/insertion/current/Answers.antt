use Rattle.tree_edit.proofs.LeafLaws.{pair_has}
use Rattle.tree_edit.proofs.insertion.current.Goals as goal

pub returns-in-Pair-clause-some : goal.returns-in-Pair-clause-some
returns-in-Pair-clause-some g c =
    let m = rw c.in-Pair.is at c.requires.pair in
    rw c.in-Pair.is (pair_has c.args.nodes.now.table _ c.args.key.now m.0.leaf.key m.0.leaf.payload _ m.0.leaf.is m.1 (c.pair_at.ensures m.0.leaf.key m.0.leaf.payload m.0.leaf.is))
