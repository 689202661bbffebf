use Rattle.std.proofs.Common.{Some, ap, sym, ◌∙◌}
use Rattle.node_table.proofs.KindLaws.{lookup-mapped_some, lookup-mapped_none}
use Rattle.tree_links.specs.Places.{as_link}
use Rattle.tree_links.proofs.place.RowNodePlaceLinkedNode.get_link.Goals as goal

pub returns-in-Some : goal.returns-in-Some
returns-in-Some g c =
    ap (λ x. Some x) c.link_at.ensures ∙ sym (lookup-mapped_some as_link c.args.self.now.children c.args.byte _ (sym c.in-Some.ensures))

pub returns-in-None : goal.returns-in-None
returns-in-None g c = sym (lookup-mapped_none as_link c.args.self.now.children c.args.byte (sym c.in-None.ensures))
