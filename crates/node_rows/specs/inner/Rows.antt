-- The two kinds of nodes, and what a contract sees of each.
use Rattle.std.specs.Prelude.{◌≡◌, ◌<◌, length}
use Rattle.std.specs.Global.{Vec}
use Rattle.node_base.specs.declared.base_node.NodeType.TheVariants.{N4, N16, N48, N256}
use Rattle.node_base.specs.inner.Few.{listed}
use Rattle.node_base.specs.inner.Sorted.{pairs}
use Rattle.node_forms.specs.Heads.{IsNode4, IsNode16}
use Rattle.spec_node.specs.TableNode.{TableNodeOf}
use Rattle.node_table.specs.inner.Kinds.{inner_node, leaf_node}
use Rattle.node_rows.specs.declared.row_head.RowHead.{RowHead}
use Rattle.node_rows.specs.declared.row_node.RowKind.{RowKind}
use Rattle.node_rows.specs.declared.row_node.RowKind.TheVariants.{Inner4, Inner16, Inner48, Inner256, Leaf4, Leaf16, Leaf48, Leaf256}
use Rattle.node_rows.specs.inner.Steps.{IsRow}

module _ {C : Type 0} where
  -- an inner node has a prefix of fewer than seven bytes
  abbrev pub IsInnerRow : RowHead → Vec C → Type 0
  IsInnerRow h row = IsRow h row × (length h.base.prefix < 7)

module _ {P C : Type 0} where
  abbrev pub row_node : RowHead → Vec C → TableNodeOf P C
  row_node h row = inner_node N48 h.base.prefix (pairs h.keys row.items)

  abbrev pub node_of_kind : RowKind P C → TableNodeOf P C
  node_of_kind (Inner4 n row) = inner_node N4 n.head.base.prefix (pairs n.head.keys (listed row))
  node_of_kind (Inner16 n row) = inner_node N16 n.head.base.prefix (pairs n.head.keys row.items)
  node_of_kind (Inner48 h row) = row_node h row
  node_of_kind (Inner256 n row) = inner_node N256 n.head.node.prefix n.head.node.children
  node_of_kind (Leaf4 n row) = leaf_node N4 n.head.base.prefix (pairs n.head.keys (listed row))
  node_of_kind (Leaf16 n row) = leaf_node N16 n.head.base.prefix (pairs n.head.keys row.items)
  node_of_kind (Leaf48 n row) = leaf_node N48 n.head.node.prefix n.head.node.children
  node_of_kind (Leaf256 n row) = leaf_node N256 n.head.node.prefix n.head.node.children

  -- the row is that of the head; a leaf, with payloads, has seven bytes, and an inner node fewer
  abbrev pub IsOfKind : RowKind P C → Type 0
  IsOfKind (Inner4 n row) = IsNode4 n.head row × (length n.head.base.prefix < 7)
  IsOfKind (Inner16 n row) = IsNode16 n.head row × (length n.head.base.prefix < 7)
  IsOfKind (Inner48 h row) = IsInnerRow h row
  IsOfKind (Inner256 n row) = Unit {0} × (length n.head.node.prefix < 7)
  IsOfKind (Leaf4 n row) = IsNode4 n.head row × (length n.head.base.prefix ≡ 7)
  IsOfKind (Leaf16 n row) = IsNode16 n.head row × (length n.head.base.prefix ≡ 7)
  IsOfKind (Leaf48 n row) = Unit {0} × (length n.head.node.prefix ≡ 7)
  IsOfKind (Leaf256 n row) = Unit {0} × (length n.head.node.prefix ≡ 7)
