-- What an insertion of a new key does to a tree. Only private contracts cite this.
use Rattle.std.specs.Prelude.{◌≡◌, ℕ, List, None}
use Rattle.spec_map.specs.Map.{put}
use Rattle.spec_node.specs.Key.{key_number}
use Rattle.node_table.specs.Shape.{Reshapes}
use Rattle.node_table.specs.Table.{NodeTable}
use Rattle.tree_path.specs.inner.Root.{HasTree, HasRoot, tree_pairs, tree_nodes, tree_payload}
use Rattle.tree_path.specs.inner.Supply.{IsCounted}
use Rattle.tree_path.specs.declared.supply.FormCounts.{FormCounts}

-- the key was absent, its pair is in the tree now, and its nodes are counted
pub record GainsPair {P : Type 0} (s t : NodeTable P) (root : ℕ) (key : List ℕ) (payload : P) (forms : FormCounts) : Type 0 where
  pub tree : HasTree t root
  pub rooted : HasRoot t root
  pub absent : tree_payload s root key ≡ None
  pub pairs : tree_pairs t root ≡ put (tree_pairs s root) (key_number key) payload
  pub shape : Reshapes {P = P} None (tree_nodes s root) key (tree_nodes t root)
  pub counted : IsCounted forms (tree_nodes t root)
