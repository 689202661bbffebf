use Rattle.std.proofs.Common.{◌∙◌, arith}
use Rattle.tree_links.proofs.OverLaws.{past_end, redirects-more, redirects-all}
use Rattle.tree_links.proofs.compact.redirect_all.Goals as goal

pub loop-slot-preserved : goal.loop-slot-preserved
loop-slot-preserved g c =
    let x = c.redirect_at.ensures in
    let i = c.loop-slot.invariant in
    record {
      each = redirects-more c.args.slots.now _ _ _ c.loop-slot.slot i.each x.redirects x.others;
      len = x.len ∙ i.len;
      capacity = x.capacity ∙ i.capacity;
    }

pub returns-clause-redirects : goal.returns-clause-redirects
returns-clause-redirects g c =
    redirects-all c.args.slots.now _ _ c.loop-slot.slot c.loop-slot.invariant.each (λ k l. past_end g.N.LinkedNode.node c.args.nodes.now.slots k (omega (arith, l)))
