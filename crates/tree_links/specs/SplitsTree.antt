-- A split that puts its new node into another place leaves the tree that a split in place leaves.
use Rattle.std.specs.Prelude.{◌≡◌, ◌≢◌, ℕ, List, Some}
use Rattle.spec_node.specs.TableNode.{TableNode}
use Rattle.node_table.specs.Table.{NodeTable, node_at}
use Rattle.tree_path.specs.inner.Root.{HasTree}
use Rattle.tree_links.specs.SameTree.{SameTree}
use Rattle.tree_links.specs.SeenTable.{leaf_of}
use Rattle.tree_links.specs.SplitsChild.{upper_of}

module _ {P : Type 0} where
  -- the new node is where the old one was, which is elsewhere now
  pub record SplitsInPlace (s t : NodeTable P) (old : ℕ) (key : List ℕ) (at : ℕ) (payload : P) : Type 0 where
    pub child : TableNode P
    pub lower : ℕ
    pub leaf : ℕ
    pub was : node_at s old ≡ Some child
    pub upper_is : node_at t old ≡ Some (upper_of child.prefix key at lower leaf)
    pub lower_is : node_at t lower ≡ Some child
    pub leaf_is : node_at t leaf ≡ Some (leaf_of key payload)
    pub keeps : (o : ℕ) (m : TableNode P) → o ≢ old → node_at s o ≡ Some m → node_at t o ≡ Some m

  -- there is a table after a split in place, and the tree in it, if it is one, is this table's
  pub record SplitsTree (s t : NodeTable P) (root old : ℕ) (key : List ℕ) (at : ℕ) (payload : P) : Type 0 where
    pub between : NodeTable P
    pub splits : SplitsInPlace s between old key at payload
    pub same : HasTree between root → SameTree between t root
