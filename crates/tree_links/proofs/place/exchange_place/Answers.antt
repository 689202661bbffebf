use Rattle.std.proofs.Common.{Some, ap, sym, refl, ◌∙◌}
use Rattle.spec_node.specs.declared.child.Child.TheVariants.{Node}
use Rattle.node_table.proofs.KindLaws.{lookup-mapped_some, lookup-mapped_none}
use Rattle.tree_links.specs.Places.{as_link}
use Rattle.tree_links.proofs.PlaceLaws.{put_link}
use Rattle.tree_links.proofs.place.exchange_place.Goals as goal

pub returns-in-Ok-clause-before : goal.returns-in-Ok-clause-before
returns-in-Ok-clause-before g c =
    lookup-mapped_some as_link c.args.node.now.children c.args.byte (Node c.in-Ok.before) c.in-Ok.ensures.before ∙ ap (λ x. Some x) (sym c.link_of.ensures)

pub returns-in-Ok-clause-after : goal.returns-in-Ok-clause-after
returns-in-Ok-clause-after g c = put_link c.args.node.now _ c.args.byte (Node c.args.place) _ refl c.in-Ok.ensures.after

pub returns-in-Err-clause-absent : goal.returns-in-Err-clause-absent
returns-in-Err-clause-absent g c = lookup-mapped_none as_link c.args.node.now.children c.args.byte c.in-Err.ensures.absent
