-- Threads may share cells if they may share a child.
use Rattle.std.specs.Prelude.{List, [], ◌∷◌, Option, Some, None}
use denote.RattleType.{RattleType}
use denote.RawPtr.{Ptr, ◌+ₚ◌}
use denote.Struct.Owning.{shape, to}
use denote.Param.Send.{IsSync, Common, struct_sync, sendable}
use Rattle.core.specs.Mem.{type_size}
use Rattle.std_alloc.proofs.SendSync.{seen}
use Rattle.std_heap.proofs.Global.TheSendSync as handle
use Rattle.node_base.specs.inner.Cells.{cell_lent, cells_lent}
use Rattle.node_base.specs.contracts.cells.Cells.{the_row, the_type}

module _ (T : RattleType) (s : IsSync T) where
  one : (c : Option T.Denot) (p : Ptr) → Common (cell_lent T c p)
  one None p κ = tt
  one (Some x) p κ = seen T s p x κ

  all : (cs : List (Option T.Denot)) (p : Ptr) → Common (cells_lent T cs p)
  all [] p κ = tt
  all (c ∷ cs) p κ = (one c p κ, all cs (p +ₚ type_size T) κ)

pub sync : (T : RattleType) → IsSync T → IsSync (the_row T)
sync T s = record {
  shared = λ d b o κ. ((struct_sync (shape (the_type T)) (search sendable, (handle.the_field_sync, tt))).shared (to (the_type T) d) b o κ, (tt, all T s d.slots d.ptr κ));
}
