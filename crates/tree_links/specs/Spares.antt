-- Spare rows for nodes of the table that is seen.
use Rattle.std.specs.Prelude.{◌≡◌, ℕ, ◌<◌, length, Option, Some}
use Rattle.std.specs.Global.{Vec}
use Rattle.node_base.specs.declared.base_node.NodeType.TheVariants.{N48, N256}
use Rattle.node_rows.specs.Spare.{IsSpareFor}
use Rattle.spec_node.specs.TableNode.{TableNode}
use Rattle.node_table.specs.Table.{NodeTable, node_at}

module _ {P C : Type 0} where
  -- there is a spare row for one child more, where the node at i needs one
  abbrev pub HasSpare : NodeTable P → ℕ → Option (Vec C) → Type 0
  HasSpare s i spare = (n : TableNode P) → node_at s i ≡ Some n
      → n.form ≡ N48 → length n.prefix < 7 → IsSpareFor (length n.children) spare

  -- the same where it needs one only once it has grown
  abbrev pub KeepsSpare : NodeTable P → ℕ → Option (Vec C) → Type 0
  KeepsSpare s i spare = (n : TableNode P) → node_at s i ≡ Some n
      → length n.prefix < 7 → (n.form ≡ N256 → ⊥) → length n.children < 48
      → IsSpareFor (length n.children) spare
