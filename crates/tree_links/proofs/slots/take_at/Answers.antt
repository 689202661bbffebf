use Rattle.std.proofs.Common.{sym}
use Rattle.tree_links.proofs.SlotLaws.{takes}
use Rattle.tree_links.proofs.slots.take_at.Goals as goal

pub returns-clause-takes : goal.returns-clause-takes
returns-clause-takes g c =
    let e = c.in-Some-take.ensures in
    takes g.N.LinkedNode.node c.args.nodes.now.slots c.args.slot c.in-Some.node.now c.take.new.self (sym c.in-Some.ensures.value) c.args.byte c.in-Some-take.link c.base.ensures.ascending (sym e.before) e.after
