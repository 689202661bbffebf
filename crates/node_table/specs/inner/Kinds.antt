-- The two kinds of nodes in a table, and what a contract sees of each.
use Rattle.std.specs.Prelude.{◌≡◌, ℕ, ◌<◌, List, [], ◌∷◌, length}
use Rattle.spec_map.specs.Map.{put, without}
use Rattle.node_base.specs.declared.base_node.NodeType.{NodeType}
use Rattle.node_base.specs.declared.base_node.NodeType.TheVariants.{N4, N16, N48, N256}
use Rattle.node_base.specs.inner.Few.{listed}
use Rattle.node_base.specs.inner.Sorted.{pairs}
use Rattle.node_forms.specs.Heads.{IsNode4, IsNode16}
use Rattle.spec_node.specs.TableNode.{TableNodeOf}
use Rattle.spec_node.specs.declared.child.Child.{Child as ChildOf}
use Rattle.spec_node.specs.declared.child.Child.TheVariants.{Payload, Node}
use Rattle.node_table.specs.declared.tree_node.NodeKind.{NodeKind}
use Rattle.node_table.specs.declared.tree_node.NodeKind.TheVariants.{Inner4, Inner16, Inner48, Inner256, Leaf4, Leaf16, Leaf48, Leaf256}

-- the same bytes, each with what f makes of its child
abbrev pub mapped : {C D : Type 0} → (C → D) → List (ℕ × C) → List (ℕ × D)
mapped f [] = []
mapped f (e ∷ es) = (e.0, f e.1) ∷ mapped f es

module _ {P C : Type 0} where
  -- a node whose children are made of others
  abbrev pub node_of : {D : Type 0} → (D → ChildOf P C) → NodeType → List ℕ → List (ℕ × D)
      → TableNodeOf P C
  node_of f form prefix es = record { form = form; prefix = prefix; children = mapped f es }

  -- the children of an inner node are what it has in their places, and those of a leaf payloads
  abbrev pub places : List (ℕ × C) → List (ℕ × ChildOf P C)
  places = mapped (λ c. Node c)

  abbrev pub payloads : List (ℕ × P) → List (ℕ × ChildOf P C)
  payloads = mapped (λ v. Payload v)

  abbrev pub inner_node : NodeType → List ℕ → List (ℕ × C) → TableNodeOf P C
  inner_node = node_of (λ c. Node c)

  abbrev pub leaf_node : NodeType → List ℕ → List (ℕ × P) → TableNodeOf P C
  leaf_node = node_of (λ v. Payload v)

  abbrev pub table_node : NodeKind P C → TableNodeOf P C
  table_node (Inner4 n row) = inner_node N4 n.head.base.prefix (pairs n.head.keys (listed row))
  table_node (Inner16 n row) = inner_node N16 n.head.base.prefix (pairs n.head.keys row.items)
  table_node (Inner48 n row) = inner_node N48 n.head.node.prefix n.head.node.children
  table_node (Inner256 n row) = inner_node N256 n.head.node.prefix n.head.node.children
  table_node (Leaf4 n row) = leaf_node N4 n.head.base.prefix (pairs n.head.keys (listed row))
  table_node (Leaf16 n row) = leaf_node N16 n.head.base.prefix (pairs n.head.keys row.items)
  table_node (Leaf48 n row) = leaf_node N48 n.head.node.prefix n.head.node.children
  table_node (Leaf256 n row) = leaf_node N256 n.head.node.prefix n.head.node.children

  -- a node with one child more, or another one, and with one less
  abbrev pub with_child : TableNodeOf P C → ℕ → ChildOf P C → TableNodeOf P C
  with_child n byte child = record n { children = put n.children byte child }

  abbrev pub without_child : TableNodeOf P C → ℕ → TableNodeOf P C
  without_child n byte = record n { children = without n.children byte }

  -- the row is that of the head; a leaf, with payloads, has seven bytes, and an inner node fewer
  abbrev pub IsOfKind : NodeKind P C → Type 0
  IsOfKind (Inner4 n row) = IsNode4 n.head row × (length n.head.base.prefix < 7)
  IsOfKind (Inner16 n row) = IsNode16 n.head row × (length n.head.base.prefix < 7)
  IsOfKind (Inner48 n row) = Unit {0} × (length n.head.node.prefix < 7)
  IsOfKind (Inner256 n row) = Unit {0} × (length n.head.node.prefix < 7)
  IsOfKind (Leaf4 n row) = IsNode4 n.head row × (length n.head.base.prefix ≡ 7)
  IsOfKind (Leaf16 n row) = IsNode16 n.head row × (length n.head.base.prefix ≡ 7)
  IsOfKind (Leaf48 n row) = Unit {0} × (length n.head.node.prefix ≡ 7)
  IsOfKind (Leaf256 n row) = Unit {0} × (length n.head.node.prefix ≡ 7)
