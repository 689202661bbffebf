-- The tree whose root is in a slot of the table.
use Rattle.std.specs.Prelude.{◌≡◌, ℕ, List, [], Option, Some}
use Rattle.node_base.specs.declared.base_node.NodeType.TheVariants.{N256}
use Rattle.spec_map.specs.Map.{Pairs, lookup}
use Rattle.spec_node.specs.Key.{key_number}
use Rattle.node_table.specs.Table.{NodeTable, NodeInfo, node_at, pairs_at, nodes_at, IsTree}
use Rattle.spec_node.specs.TableNode.{TableNode}

-- how many levels a tree has at most, named so that nothing counts it down
unfoldable pub depth : ℕ
depth = 8

-- the root has the largest form, and no prefix
pub record HasRoot {P : Type 0} (s : NodeTable P) (root : ℕ) : Type 0 where
  pub node : TableNode P
  pub here : node_at s root ≡ Some node
  pub form : node.form ≡ N256
  pub prefix : node.prefix ≡ []

module _ {P : Type 0} (s : NodeTable P) (root : ℕ) where
  -- the slot holds the root of a tree
  abbrev pub HasTree : Type 0
  HasTree = IsTree s depth [] root

  -- the pairs of the tree, keys ascending
  abbrev pub tree_pairs : Pairs P
  tree_pairs = pairs_at s depth root

  -- its nodes, the root first
  abbrev pub tree_nodes : List NodeInfo
  tree_nodes = nodes_at s depth [] root

  -- the payload at a key of eight bytes
  abbrev pub tree_payload : List ℕ → Option P
  tree_payload key = lookup tree_pairs (key_number key)
