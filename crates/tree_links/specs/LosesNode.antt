-- A node that is empty is taken out of its parent.
use Rattle.std.specs.Prelude.{◌≡◌, ◌≢◌, ℕ, [], Some, None}
use Rattle.spec_map.specs.Map.{without}
use Rattle.node_base.specs.declared.base_node.NodeType.{NodeType}
use Rattle.spec_node.specs.TableNode.{TableNode}
use Rattle.node_table.specs.Table.{NodeTable, node_at}

module _ {P : Type 0} where
  -- there is a node without children
  pub record IsEmptyAt (s : NodeTable P) (i : ℕ) : Type 0 where
    pub node : TableNode P
    pub here : node_at s i ≡ Some node
    pub empty : node.children ≡ []

  -- the node at `parent` has nothing under the byte now, and what was at i, of this form, is gone
  pub record LosesNode (s t : NodeTable P) (parent byte i : ℕ) (form : NodeType) : Type 0 where
    pub node : TableNode P
    pub gone : TableNode P
    pub here : node_at s parent ≡ Some node
    pub was : node_at s i ≡ Some gone
    pub of_form : gone.form ≡ form
    pub there : node_at t parent ≡ Some (record node { children = without node.children byte })
    pub free : node_at t i ≡ None
    pub others : (o : ℕ) → o ≢ parent → o ≢ i → node_at t o ≡ node_at s o
