-- A node of a table, where an inner node has a slot or a pair in the place of a child, as what a table of links has.
use Rattle.std.specs.Prelude.{ℕ, List}
use Rattle.spec_node.specs.TableNode.{TableNodeOf}
use Rattle.spec_node.specs.declared.child.Child.{Child as ChildOf}
use Rattle.spec_node.specs.declared.child.Child.TheVariants as children
use Rattle.node_table.specs.inner.Kinds.{mapped}
use Rattle.tree_links.specs.LinkNode.{LinkNode}
use Rattle.tree_links.specs.declared.link.Link.{Link}
use Rattle.tree_links.specs.declared.link.Link.TheVariants as links
use Rattle.tree_links.specs.declared.place.Place.{Place}
use Rattle.tree_links.specs.declared.place.Place.TheVariants.{Slot, Pair}

module _ {P : Type 0} where
  abbrev pub as_link : ChildOf P (Place P) → Link P
  as_link (children.Payload v) = links.Payload v
  as_link (children.Node (Slot j)) = links.Slot j
  as_link (children.Node (Pair rest v)) = links.Pair rest v

  abbrev pub as_links : List (ℕ × ChildOf P (Place P)) → List (ℕ × Link P)
  as_links = mapped as_link

  abbrev pub as_linked : TableNodeOf P (Place P) → LinkNode P
  as_linked n = record { form = n.form; prefix = n.prefix; links = as_links n.children }
