-- When the parts of a tree agree with one another.
use Rattle.std.specs.Prelude.{◌≡◌, ℕ, length}
use Rattle.node_table.specs.Table.{NodeTable}
use Rattle.tree_path.specs.inner.Root.{HasRoot, HasTree, tree_pairs, tree_nodes}
use Rattle.tree_edit.specs.Reduce.{AreFilled}
use Rattle.tree_path.specs.inner.Supply.{IsCounted}
use Rattle.tree_path.specs.declared.supply.FormCounts.{FormCounts}

-- the slot holds the root of a tree without other empty nodes, whose pairs and nodes are counted
pub record IsWhole {P : Type 0} (s : NodeTable P) (root : ℕ) (forms : FormCounts) (count : ℕ) : Type 0 where
  pub tree : HasTree s root
  pub rooted : HasRoot s root
  pub filled : AreFilled (tree_nodes s root)
  pub by_form : IsCounted forms (tree_nodes s root)
  pub counted : count ≡ length (tree_pairs s root)
