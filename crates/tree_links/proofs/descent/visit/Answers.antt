use Rattle.std.proofs.Common.{◌≡◌, ◌∙◌, None, option_copied, ap, sym}
use Rattle.std.specs.Option.{option_map}
use Rattle.tree_links.specs.SeenTable.{links_of, link_at}
use Rattle.tree_links.proofs.SeenLaws.{at_links_of}
use Rattle.tree_links.proofs.descent.visit.Goals as goal

pub unreachable-requires : goal.unreachable-requires
unreachable-requires g c =
    let s = c.args.nodes.now.slots in
    let f = g.N.LinkedNode.node in
    let none : link_at (links_of f s) c.args.slot ≡ None = at_links_of f s c.args.slot ∙ ap (option_map f) (sym c.get.ensures ∙ ap option_copied c.in_default.is) in
    let has = c.requires in
    let clash = rw none at has in cc

pub returns-clause-node : goal.returns-clause-node
returns-clause-node g c =
    let s = c.args.nodes.now.slots in
    let f = g.N.LinkedNode.node in
    at_links_of f s c.args.slot ∙ ap (option_map f) (sym c.get.ensures ∙ ap option_copied c.in-Some.is)
