use Rattle.std.proofs.Common.{Some, ap, ◌∙◌}
use Rattle.spec_node.specs.declared.child.Child.TheVariants.{Node}
use Rattle.node_table.proofs.KindLaws.{lookup-mapped_some, lookup-mapped_none}
use Rattle.tree_links.specs.Places.{as_link}
use Rattle.tree_links.specs.declared.place.Place.{Place}
use Rattle.tree_links.proofs.place.RowNodePlaceLinkedNode.meet.Goals as goal

pub returns-in-Nothing : goal.returns-in-Nothing
returns-in-Nothing g c =
    let m = c.in-Nothing.ensures in (m.0, m.1, lookup-mapped_none as_link c.args.self.now.children _ m.2)

pub returns-in-Node-Slot : goal.returns-in-Node-Slot
returns-in-Node-Slot g c =
    let m = c.in-Node-Slot.ensures in (
      m.0,
      m.1,
      lookup-mapped_some as_link c.args.self.now.children _ _ m.2 ∙ ap (λ (x : Place g.row.P.Denot). Some (as_link (Node x))) c.in-Node-Slot.field-0-is,
    )

pub returns-in-Node-Pair : goal.returns-in-Node-Pair
returns-in-Node-Pair g c =
    let m = c.in-Node-Pair.ensures in (
      m.0,
      m.1,
      lookup-mapped_some as_link c.args.self.now.children _ _ m.2 ∙ ap (λ (x : Place g.row.P.Denot). Some (as_link (Node x))) c.in-Node-Pair.field-0-is,
    )
