-- A `&` to the cells is made where one to a child is: it shows each child, and neither the room of empty cells nor the
-- right to free the block.
use Rattle.std.specs.Prelude.{List, [], ◌∷◌, Option, Some, None}
use mathlib.Core.List.{◌++◌}
use mir.Raw.{raw as bare}
use mir.Syntax.{ty_array}
use seplogic.Ra.Ura.{Ura}
use base.Fml.{Lft, ftrue, fsep, Incl-trans}
use contract.BorrowLft.{meet_⊑_left}
use types.Logic.{Logic}
use denote.RattleType.{RattleType, RowLaws}
use denote.Memory.{lone}
use denote.RawPtr.{Ptr, block_ptr, null_ptr, in_block, ◌+ₚ◌}
use denote.Sharing.{ShrLaws, said}
use denote.SharingLaws.{nothing_shr_laws, said_shr_laws, beside_shr_laws}
use denote.Shares.{Shares, Shares-less}
use denote.Param.Laws.{Laws}
use denote.Param.Shared.{copy_shared}
use denote.Struct.Field.{RawPtr-field}
use denote.Struct.Laws.{RawPtr-copy}
use denote.Struct.Lending.{lent_at_shr_laws, Lends, Lends-false, Lends-lies, Lends-said, Lends-nothing, Lends-both, Lends-first, of_Lends}
use Rattle.core.specs.Mem.{type_size}
use Rattle.std_heap.specs.contracts.Global as Heap
use Rattle.std_heap.specs.contracts.GlobalAllocator.TheImpl.{ghosts}
use Rattle.std_heap.proofs.Global.TheLaws as heap
use Rattle.node_base.specs.inner.Cells.{cell, cells, cell_lent, cells_lent, bound}
use Rattle.node_base.specs.contracts.cells.Cells as C
use Rattle.node_base.proofs.cells.Cells.TheLaw.Statement.{statement}

module _ (R : RattleType) (L : RowLaws R) where
  cell_laws : (c : Option R.Denot) (p : Ptr) → ShrLaws (cell_lent R c p)
  cell_laws None p = nothing_shr_laws
  cell_laws (Some x) p = lent_at_shr_laws R L p x

  cells_laws : (cs : List (Option R.Denot)) (p : Ptr) → ShrLaws (cells_lent R cs p)
  cells_laws [] p = nothing_shr_laws
  cells_laws (c ∷ cs) p =
      let next = p +ₚ type_size R in
      beside_shr_laws (cell_lent R c p) (cells_lent R cs next) (cell_laws c p) (cells_laws cs next)

module _ {M : Type 1} {𝓤 : Ura M} (𝓛 : Logic 𝓤) (R : RattleType) (l : Lft) (s : Shares 𝓛 R l) where
  lends_cell : (c : Option R.Denot) (p : Ptr) → Lends 𝓛 (cell R c p) (cell_lent R c p) l
  lends_cell None p = Lends-nothing 𝓛 (cell R None p) l
  lends_cell (Some x) p = Lends-lies 𝓛 R l p x (s x)

  lends_cells : (cs : List (Option R.Denot)) (p : Ptr) → Lends 𝓛 (cells R cs p) (cells_lent R cs p) l
  lends_cells [] p = Lends-nothing 𝓛 ftrue l
  lends_cells (c ∷ cs) p =
      let next = p +ₚ type_size R in
      Lends-both 𝓛 (cell R c p) (cells R cs next) (cell_lent R c p) (cells_lent R cs next) l (lends_cell c p) (lends_cells cs next)

  lends_block : (cs : List (Option R.Denot)) (p : Ptr) → Lends 𝓛 (in_block p (cells R cs p)) (cells_lent R cs p) l
  lends_block cs (block_ptr b o) = lends_cells cs (block_ptr b o)
  lends_block cs null_ptr = Lends-false 𝓛 (cells_lent R cs null_ptr) l

pub shares : (R : RattleType) (L : Laws R) → statement R L
shares R L =
    of_Lends (C.struct R) (C.the_codes R.Denot R.coded Heap.the_row.coded) (C.the_heap R) (C.the_lent R)
    (λ d p. beside_shr_laws (said (bound R)) (cells_lent R d.slots d.ptr) (said_shr_laws (bound R) tt) (cells_laws R L.shr_laws d.slots d.ptr))
    (copy_shared RawPtr-field RawPtr-copy, (heap.the_field_shared, tt)) (λ M 𝓤 𝓛 d p.
    let l = (C.the_row R).lives in
    let held = in_block d.ptr (cells R d.slots d.ptr) in
    let token = ghosts.dealloc_token d.alloc (bare (ty_array (lone R.mir) 256)) d.ptr in
    let short = Shares-less 𝓛 R R.lives l (Incl-trans (meet_⊑_left (R.lives ++ []) _) (meet_⊑_left R.lives [])) (L.shares 𝓛) in
    Lends-both 𝓛 (bound R) (fsep held token) (said (bound R)) (cells_lent R d.slots d.ptr) l (Lends-said 𝓛 (bound R) tt l)
    (Lends-first 𝓛 held token (cells_lent R d.slots d.ptr) l (lends_block 𝓛 R l short d.slots d.ptr)))
