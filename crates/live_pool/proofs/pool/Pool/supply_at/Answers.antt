use Rattle.live_growth.proofs.Ready.{ready_kept, ready_spare}
use Rattle.live_pool.proofs.pool.Pool.supply_at.Goals as goal

pub returns-in-Some-take_from-clause-ready : goal.returns-in-Some-take_from-clause-ready
returns-in-Some-take_from-clause-ready c =
    let v = c.args.seat.now.view in
    let w = c.take_from.new.seat.view in
    let m = c.args.room.now in
    let kept = ready_kept v w m c.requires.ready c.take_from.ensures.seat.2 in
    ready_spare w m c.keep.new.self kept (c.keep.ensures.kept w kept.spare c.in-Some-take_from.ensures.met)

pub returns-clause-ready : goal.returns-clause-ready
returns-clause-ready c = ready_kept c.args.seat.now.view c.take_from.new.seat.view c.args.room.now c.requires.ready c.take_from.ensures.seat.2
