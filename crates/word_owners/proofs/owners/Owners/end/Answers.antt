use Rattle.word_owners.proofs.Handles.{still, left_announcing}
use Rattle.word_owners.proofs.owners.Owners.end.Goals as goal

pub invariant_of-handle : goal.invariant_of-handle
invariant_of-handle c =
    let inv = c.handle.invariant in
    let row = left_announcing c.handle.inside.seat.view c.clear.new.seat.view 1 c.clear.ensures.cleared in
    (still c.handle.inside.seat.view c.clear.new.seat.view c.handle.inside.hazard c.handle.inside.retired.items c.handle.inside.current c.handle.inside.found.items row inv.0, inv.1, inv.2, inv.3)
