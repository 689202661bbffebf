-- A cell for each byte's child, and the mask of the cells that are filled.
use Rattle.std.specs.Prelude.{◌≡◌, ℕ, ◌<◌, List, length, Option, Some, None}
use Rattle.std.proofs.Common.{get_or}
use Rattle.node_base.specs.inner.Marked.{mark_at}
use Rattle.node_base.specs.inner.Row.{under}

module _ {C : Type 0} where
  -- what a byte's cell has
  abbrev pub in_cell : List (Option C) → ℕ → Option C
  in_cell slots b = get_or slots b None

  -- the children in all cells, each with its byte
  abbrev pub in_cells : List (Option C) → List (ℕ × C)
  in_cells slots = under (in_cell slots) 0 256

  -- the bit of a cell: 1 where it is filled, 0 where it is empty
  abbrev pub bit_of : Option C → ℕ
  bit_of None = 0
  bit_of (Some c) = 1

  -- there are 256 cells, and the bit of each is that of the mask
  pub record IsMarked (words : List ℕ) (slots : List (Option C)) : Type 0 where
    pub long : length slots ≡ 256
    pub marked : (b : ℕ) → b < 256 → mark_at words b ≡ bit_of (in_cell slots b)
