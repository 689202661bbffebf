-- What a handle owns: the same as a box of what it holds.
use base.Fml.{Fml, ftrue}
use base.Stored.{Coded}
use denote.RattleType.{RattleType}
use denote.RawPtr.{Ptr}
use Rattle.std.specs.Prelude.{Option, Some, None}
use Rattle.std.specs.Coded.{coded_option}
use Rattle.std.specs.Box.Ownership.{box_owns}
use Rattle.std.specs.Global.{Global}
use Rattle.std.specs.contracts.impls.GlobalAllocator.TheImpl.{ghosts}

abbrev pub handle_owns : (R : RattleType) → Global → Ptr → R.Denot → Fml
handle_owns R alloc = box_owns (ghosts.dealloc_token alloc) R

-- nothing, or the same
abbrev pub room_owns : (R : RattleType) → Global → Ptr → Option R.Denot → Fml
room_owns R alloc at None = ftrue
room_owns R alloc at (Some held) = handle_owns R alloc at held

abbrev pub held_coded : (R : RattleType) → Coded R.Denot
held_coded R = R.coded

abbrev pub room_coded : (R : RattleType) → Coded (Option R.Denot)
room_coded R = coded_option R.coded
