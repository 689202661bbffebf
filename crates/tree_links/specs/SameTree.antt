-- A tree that is the same in another table.
use Rattle.std.specs.Prelude.{◌≡◌, ℕ, List, length, Some}
use Rattle.spec_node.specs.Key.{AreBytes, Begins, next_byte}
use Rattle.spec_node.specs.TableNode.{TableNode}
use Rattle.node_table.specs.Table.{NodeTable, node_at}
use Rattle.tree_path.specs.inner.Descent.{LeadsTo}
use Rattle.tree_path.specs.inner.Root.{HasTree, tree_pairs, tree_nodes}

module _ {P : Type 0} where
  -- its pairs, and its nodes as callers see them
  pub record SameTree (s t : NodeTable P) (root : ℕ) : Type 0 where
    pub tree : HasTree t root
    pub pairs : tree_pairs t root ≡ tree_pairs s root
    pub nodes : tree_nodes t root ≡ tree_nodes s root

  -- the same, where its root may have another place
  pub record MovesTree (s t : NodeTable P) (root other : ℕ) : Type 0 where
    pub tree : HasTree t other
    pub pairs : tree_pairs t other ≡ tree_pairs s root
    pub nodes : tree_nodes t other ≡ tree_nodes s root

  -- the path of a key of eight bytes leads to the node at i, and goes on under this byte
  pub record GoesOnAt (s : NodeTable P) (root : ℕ) (key : List ℕ) (i byte : ℕ) : Type 0 where
    pub bytes : AreBytes key
    pub full : length key ≡ 8
    pub above : ℕ
    pub parent : ℕ
    pub leads : LeadsTo s root key above i parent
    pub node : TableNode P
    pub here : node_at s i ≡ Some node
    pub begins : Begins node.prefix key
    pub next : byte ≡ next_byte node.prefix key
