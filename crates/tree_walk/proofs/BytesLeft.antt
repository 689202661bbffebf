-- The measure that each step down a tree decreases.
use Rattle.std.proofs.Common.{ℕ, ◌-◌, length, Option, Some, None}
use Rattle.node_table.specs.Table.{NodeTable, node_at}
use Rattle.spec_node.specs.TableNode.{TableNode}

module _ {P : Type 0} (s : NodeTable P) where
  abbrev pub bytes_after : Option (TableNode P) → ℕ
  bytes_after None = 0
  bytes_after (Some n) = 8 - length n.prefix

  -- how many bytes a key has after the prefix of the slot's node
  abbrev pub bytes_left : ℕ → ℕ
  bytes_left slot = bytes_after (node_at s slot)
