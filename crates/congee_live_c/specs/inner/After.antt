-- What a handle is after what it holds changed.
use Rattle.live_owners.specs.Owners.{OwnersKnown}
use Rattle.congee_live_c.specs.Holding.{Holding}
use Rattle.congee_live_c.specs.declared.handle.Handle.{Handle}
use Rattle.congee_live_c.specs.declared.owners.handle.Handle.{Handle as OwnersHandle}

-- the handle with another guard
abbrev pub with_held : Handle → Holding → Handle
with_held h w = record { ptr = h.ptr; alloc = h.alloc; held = w }

-- the handle of a map of owners, with another
abbrev pub with_owners : OwnersHandle → OwnersKnown → OwnersHandle
with_owners h w = record { ptr = h.ptr; alloc = h.alloc; held = w }
