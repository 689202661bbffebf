use Rattle.live_pool.proofs.Tellings.{ready_after}
use Rattle.live_pool.proofs.succession.succeed.Goals as goal

pub invariant_of-to : goal.invariant_of-to
invariant_of-to c =
    let v = c.from.inside.seat.view in
    let w = c.to.inside.seat.view in
    ready_after v w c.inform.new.a.view c.inform.new.b.view c.hand_over.new.to.view c.from.inside.room c.to.inside.room c.from.invariant c.to.invariant c.inform.ensures.informs.0 c.inform.ensures.informs.1 c.hand_over.ensures.succeeds.1
