-- Rows that have room enough.
use Rattle.std.proofs.Common.{ℕ, ◌≤◌, length, arith, vec_capacity}
use Rattle.std.specs.Global.{Vec}
use Rattle.node_rows.specs.declared.row_head.RowHead.{RowHead}
use Rattle.node_rows.specs.inner.Steps.{HasSteps, IsRow, IsWholeRow}

-- room for forty-eight is enough for as many
pub whole-steps : (n capacity : ℕ) → n ≤ 48 → 48 ≤ capacity → HasSteps n capacity
whole-steps n capacity few room = (omega arith, omega arith)

module _ {C : Type 0} where
  pub whole_row : (h : RowHead) (row : Vec C) → IsWholeRow h row → IsRow h row
  whole_row h row w = (w.0, whole-steps (length row.items) (vec_capacity row) w.0.0.within w.1)
