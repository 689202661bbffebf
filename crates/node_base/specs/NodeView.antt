-- What a contract sees of a node.
use Rattle.std.specs.Prelude.{ℕ, List}
use Rattle.node_base.specs.declared.base_node.NodeType.{NodeType}

-- the bytes from the root down to the node, and its children by their bytes, ascending
pub record NodeView (C : Type 0) : Type 0 where
  pub prefix : List ℕ
  pub children : List (ℕ × C)

-- what a contract sees of the part that all forms have
pub record BaseView : Type 0 where
  pub prefix : List ℕ
  pub count : ℕ
  pub form : NodeType
