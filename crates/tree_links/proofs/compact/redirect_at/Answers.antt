use Rattle.std.proofs.Common.{sym}
use Rattle.tree_links.proofs.OverLaws.{redirected_there, redirected_nowhere}
use Rattle.tree_links.proofs.SlotLaws.{set_others}
use Rattle.tree_links.proofs.compact.redirect_at.Goals as goal

pub returns-in_default-clause-redirects : goal.returns-in_default-clause-redirects
returns-in_default-clause-redirects g c = redirected_nowhere c.args.slots.now g.N.LinkedNode.node c.args.nodes.now.slots c.args.slot (sym c.in_default.ensures.value)

pub returns-clause-redirects : goal.returns-clause-redirects
returns-clause-redirects g c = redirected_there c.args.slots.now g.N.LinkedNode.node c.args.nodes.now.slots c.args.slot c.in-Some.node.now c.redirect.new.node (sym c.in-Some.ensures.value) c.redirect.ensures

pub returns-clause-others : goal.returns-clause-others
returns-clause-others g c = set_others g.N.LinkedNode.node c.args.nodes.now.slots c.args.slot c.in-Some.node.now c.redirect.new.node (sym c.in-Some.ensures.value)
