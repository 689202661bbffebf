-- The handle may go to another thread, since the map may.
use mir.Raw.{raw}
use denote.Memory.{lone}
use denote.Struct.Struct.{exits_of}
use denote.Struct.Owning.{shape, fields, to}
use denote.Param.Send.{IsSend, AllSend, owning_send, struct_send, sendable}
use Rattle.std.proofs.Crossing as heap
use Rattle.std.proofs.alloc.Global.TheSendSync as global
use Rattle.std_alloc.proofs.SendSync.{quiet, lies}
use Rattle.congee_live_c.specs.contracts.owners.held.Held as Held
use Rattle.congee_live_c.proofs.owners.held.Held.TheSendSync.{the_send as held}
use Rattle.congee_live_c.specs.contracts.owners.handle.Handle.{the_row, the_type}

pub send : IsSend the_row
send =
    let all : AllSend (fields the_type) = (search sendable, (global.the_field_send, tt)) in
    owning_send the_type all (λ d. (lies Held.the_row held d.ptr d.held, heap.frees.frees d.alloc (raw (lone Held.the_row.mir)) d.ptr))
    (λ k. quiet (to the_type) (exits_of k (fields the_type)) ((struct_send (shape the_type) all).leaving k))
