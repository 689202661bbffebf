use Rattle.std.proofs.Common.{sym, subst}
use Rattle.tree_links.specs.LinkNode.{LinkNode, MayLink}
use Rattle.tree_links.proofs.SlotLaws.{same_node, exchanges}
use Rattle.tree_links.proofs.slots.exchange_at.Goals as goal

pub exchange-requires : goal.exchange-requires
exchange-requires g c =
    let is = same_node g.N.LinkedNode.node c.args.nodes.now.slots c.args.slot c.in-Some.node.now c.requires.node (sym c.in-Some.ensures.value) c.requires.here in
    subst (λ (n : LinkNode g.row.P.Denot). MayLink n.prefix c.args.link) is c.requires.kind

pub returns-clause-exchanges : goal.returns-clause-exchanges
returns-clause-exchanges g c =
    let e = c.in-Ok.ensures in
    exchanges g.N.LinkedNode.node c.args.nodes.now.slots c.args.slot c.in-Some.node.now c.exchange.new.self (sym c.in-Some.ensures.value) c.args.byte c.in-Ok.before c.args.link c.base.ensures.ascending e.before e.after
