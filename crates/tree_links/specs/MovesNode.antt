-- A node goes from one place of a table into another, and nothing else changes.
use Rattle.std.specs.Prelude.{◌≡◌, ◌≢◌, ℕ, Some}
use Rattle.spec_map.specs.Map.{lookup, put}
use Rattle.spec_node.specs.TableNode.{TableNode}
use Rattle.node_table.specs.Table.{NodeTable, node_at}
use Rattle.spec_node.specs.declared.child.Child.TheVariants.{Node}

-- Under this byte of the node at `parent` there was the node at i. Now it is at j. What is at i then is open, and so is
-- what is where there was no node.
pub record MovesNode {P : Type 0} (s t : NodeTable P) (parent byte i j : ℕ) : Type 0 where
  pub node : TableNode P
  pub moved : TableNode P
  pub here : node_at s parent ≡ Some node
  pub found : lookup node.children byte ≡ Some (Node i)
  pub was : node_at s i ≡ Some moved
  pub there : node_at t parent ≡ Some (record node { children = put node.children byte (Node j) })
  pub is : node_at t j ≡ Some moved
  pub keeps : (o : ℕ) (m : TableNode P) → o ≢ parent → o ≢ i → node_at s o ≡ Some m → node_at t o ≡ Some m
