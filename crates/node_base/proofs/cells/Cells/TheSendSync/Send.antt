-- Cells may go to another thread if a child may: a block is freed in any thread.
use Rattle.std.specs.Prelude.{List, [], ◌∷◌, Option, Some, None}
use mir.Raw.{raw}
use mir.Syntax.{Ty, ty_array}
use base.Shift.{Keyless}
use base.Fml.{Fml}
use denote.RattleType.{RattleType}
use denote.Memory.{lone}
use denote.RawPtr.{Ptr, block_ptr, null_ptr, room_for, in_block, ◌+ₚ◌}
use denote.Struct.Struct.{exits_of}
use denote.Struct.Owning.{shape, fields, to}
use denote.Param.Send.{IsSend, AllSend, owning_send, struct_send, sendable}
use Rattle.core.specs.Mem.{type_size}
use Rattle.std.proofs.Crossing as heap
use Rattle.std_alloc.proofs.SendSync.{quiet, lies}
use Rattle.std_heap.proofs.Global.TheSendSync as handle
use Rattle.node_base.specs.inner.Cells.{cell, cells}
use Rattle.node_base.specs.contracts.cells.Cells.{the_row, the_type}

room : (τ : Ty) (p : Ptr) → Keyless (room_for τ p)
room τ (block_ptr b o) = tt
room τ null_ptr = tt

inside : (p : Ptr) (F : Fml) → Keyless F → Keyless (in_block p F)
inside (block_ptr b o) F k = k
inside null_ptr F k = tt

module _ (T : RattleType) (s : IsSend T) where
  one : (c : Option T.Denot) (p : Ptr) → Keyless (cell T c p)
  one None p = room (raw (lone T.mir)) p
  one (Some x) p = lies T s p x

  all : (cs : List (Option T.Denot)) (p : Ptr) → Keyless (cells T cs p)
  all [] p = tt
  all (c ∷ cs) p = (one c p, all cs (p +ₚ type_size T))

pub send : (T : RattleType) → IsSend T → IsSend (the_row T)
send T s =
    let O = the_type T in
    let parts : AllSend (fields O) = (search sendable, (handle.the_field_send, tt)) in
    owning_send O parts
    (λ d. (tt, (inside d.ptr (cells T d.slots d.ptr) (all T s d.slots d.ptr), heap.frees.frees d.alloc (raw (ty_array (lone T.mir) 256)) d.ptr)))
    (λ k. quiet (to O) (exits_of k (fields O)) ((struct_send (shape O) parts).leaving k))
