-- What is charged for the nodes of a tree.
use Rattle.std.specs.Prelude.{◌≡◌, ℕ, ◌+◌, List, [], ◌∷◌, Option}
use Rattle.node_table.specs.Charge.{Charge, add_charge}
use Rattle.node_base.specs.Form.{stated_size}
use Rattle.node_table.specs.Table.{NodeInfo}
use Rattle.node_base.specs.declared.base_node.NodeType.{NodeType}

-- the sum over the nodes of their forms' weights
abbrev pub total : (NodeType → ℕ) → List NodeInfo → ℕ
total weight [] = 0
total weight (n ∷ nodes) = weight n.form + total weight nodes

-- the sum of the stated sizes of the nodes
abbrev pub charge_of : List NodeInfo → ℕ
charge_of nodes = total stated_size nodes

-- A charge, where it is counted, changes from the first to the second by as much as a size does.
abbrev pub MovesAlike : Option Charge → ℕ → Option Charge → ℕ → Type 0
MovesAlike charge size charge' size' = add_charge charge size' ≡ add_charge charge' size
