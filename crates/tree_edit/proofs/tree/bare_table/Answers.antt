use Rattle.std.proofs.Common.{◌≡◌, ◌∙◌, ℕ, [], Some, ap, refl}
use Rattle.node_base.specs.declared.base_node.NodeType.TheVariants.{N256}
use Rattle.spec_node.specs.TableNode.{TableNode, TableNodeOf}
use Rattle.tree_links.specs.Places.{as_linked}
use Rattle.tree_links.specs.SeenTable.{seen_node}
use Rattle.tree_links.specs.declared.place.Place.{Place}
use Rattle.tree_edit.proofs.tree.bare_table.Goals as goal

empty : {P : Type 0} (i : ℕ) (n : TableNodeOf P (Place P)) → n ≡ record { form = N256; prefix = []; children = [] } → ◌≡◌ {A = TableNode P} (seen_node i (as_linked n)) (record { form = N256; prefix = []; children = [] })
empty i n is = rw is refl

pub returns : goal.returns
returns g c = c.add-root.ensures.is ∙ ap Some (empty _ _ c.in_ok-root.ensures)
