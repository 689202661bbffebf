-- How large a row is, and when it is that of a head.
use Rattle.std.specs.Prelude.{◌≡◌, ℕ, ◌+◌, ◌*◌, ◌/◌, ◌≤◌, List, length, vec_capacity}
use Rattle.std.specs.Global.{Vec}
use Rattle.node_base.specs.inner.Sorted.{IsSorted}
use Rattle.node_base.specs.declared.base_node.NodeType.TheVariants.{N48}
use Rattle.node_rows.specs.declared.row_head.RowHead.{RowHead}

-- a row of this capacity has sixteen places at least, and as many as its children, rounded up to fours
abbrev pub HasSteps : ℕ → ℕ → Type 0
HasSteps n capacity = (16 ≤ capacity) × (4 * ((n + 3) / 4) ≤ capacity)

module _ {C : Type 0} where
  -- the bytes of the head are those of these children
  abbrev pub IsHeadOf : RowHead → List C → Type 0
  IsHeadOf h children = IsSorted 48 h.keys children h.base.count × (h.base.form ≡ N48)

  -- the row is that of the head, and has room for forty-eight children
  abbrev pub IsWholeRow : RowHead → Vec C → Type 0
  IsWholeRow h row = IsHeadOf h row.items × (48 ≤ vec_capacity row)

  -- the row is that of the head
  abbrev pub IsRow : RowHead → Vec C → Type 0
  IsRow h row = IsHeadOf h row.items × HasSteps (length row.items) (vec_capacity row)
