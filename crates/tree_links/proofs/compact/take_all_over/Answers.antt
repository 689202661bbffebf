use Rattle.std.proofs.Common.{arith}
use Rattle.tree_links.proofs.OverLaws.{past_end, over-all, over-pairs}
use Rattle.tree_links.proofs.compact.take_all_over.Goals as goal

pub returns-clause-goes : goal.returns-clause-goes
returns-clause-goes g c =
    over-all _ _ _ _ c.loop-slot.slot c.loop-slot.invariant.over (λ k l. past_end g.N.LinkedNode.node c.args.nodes.now.slots k (omega (arith, l)))

pub returns-clause-pairs : goal.returns-clause-pairs
returns-clause-pairs g c =
    over-pairs _ _ _ _ c.loop-slot.slot c.loop-slot.invariant.over (λ k l. past_end g.N.LinkedNode.node c.args.nodes.now.slots k (omega (arith, l)))
