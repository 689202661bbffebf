use Rattle.live_growth.proofs.StoodOn.{position_grown}
use Rattle.live_growth.proofs.insert.extend.Goals as goal

pub enlarge-requires-clause-position : goal.enlarge-requires-clause-position
enlarge-requires-clause-position c = position_grown c.args.seat.now.view c.lead_on.new.seat.view c.args.key c.args.position c.lead_on.ensures.grown c.requires.position

pub returns-in-Ok : goal.returns-in-Ok
returns-in-Ok c =
    let t = c.lead_on.ensures in
    let position = position_grown c.args.seat.now.view c.lead_on.new.seat.view c.args.key c.args.position t.grown c.requires.position in
    record { book = t.book; id = t.id; ready = t.ready; seen = t.grown.seen; leaf = (c.in-Ok.ensures.leaf, position) }

pub returns-in-Err-Busy : goal.returns-in-Err-Busy
returns-in-Err-Busy c = let t = c.lead_on.ensures in record { book = t.book; id = t.id; ready = t.ready; seen = t.grown.seen; leaf = tt }
