use Rattle.std.proofs.Common.{◌∙◌}
use Rattle.live_copies.proofs.Locking.{locked_since}
use Rattle.live_copies.proofs.locks.lock_patiently.Goals as goal

pub returns-in-Some : goal.returns-in-Some
returns-in-Some c =
    let u = c.args.seat.now.view in
    let v = c.loop.seat.view in
    let w = c.lock_node.new.seat.view in
    let i = c.loop.invariant in
    let t = c.in-Some.ensures in
    record { book = t.book ∙ i.book; id = t.id ∙ i.id; locked = locked_since u v w c.args.name c.args.key c.args.height c.in-Some.free i.alike i.client i.holds t.locked; none = tt }
