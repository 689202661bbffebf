-- What a block of 256 cells owns, and what a `&` to it shows.
use Rattle.std.specs.Prelude.{◌*◌, ◌^◌, List, [], ◌∷◌, Option, Some, None}
use base.Fraction.{full_share}
use base.Fml.{Fml, Lft, ftrue, fsep, flt}
use mir.Raw.{raw}
use mir.Syntax.{ty_array}
use denote.RattleType.{RattleType}
use denote.Memory.{lone}
use denote.RawPtr.{Ptr, lies_at, room_for, in_block, ◌+ₚ◌}
use denote.Sharing.{nothing, said, beside}
use denote.Struct.Lending.{lent_at}
use Rattle.core.specs.Mem.{type_size}
use Rattle.std.specs.Global.{Global}
use Rattle.std_heap.specs.contracts.GlobalAllocator.TheImpl.{ghosts}

module _ (R : RattleType) where
  -- a cell's value, or room for one
  abbrev pub cell : Option R.Denot → Ptr → Fml
  cell None p = room_for (raw (lone R.mir)) p
  cell (Some x) p = lies_at R full_share p x

  -- cells in a row
  abbrev pub cells : List (Option R.Denot) → Ptr → Fml
  cells [] p = ftrue
  cells (c ∷ cs) p = fsep (cell c p) (cells cs (p +ₚ type_size R))

  -- 256 cells fit in one block
  abbrev pub bound : Fml
  bound = flt (256 * type_size R) (2 ^ 63)

  -- the cells, and the right to free their block
  abbrev pub block_owns : Global → Ptr → List (Option R.Denot) → Fml
  block_owns alloc p cs =
      fsep bound (fsep (in_block p (cells cs p)) (ghosts.dealloc_token alloc (raw (ty_array (lone R.mir) 256)) p))

  -- a filled cell's value is lent; an empty one shows nothing
  abbrev pub cell_lent : Option R.Denot → Ptr → Lft → Fml
  cell_lent None p = nothing
  cell_lent (Some x) p = lent_at R p x

  abbrev pub cells_lent : List (Option R.Denot) → Ptr → Lft → Fml
  cells_lent [] p = nothing
  cells_lent (c ∷ cs) p = beside (cell_lent c p) (cells_lent cs (p +ₚ type_size R))

  abbrev pub block_lends : Ptr → List (Option R.Denot) → Lft → Fml
  block_lends p cs = beside (said bound) (cells_lent cs p)
