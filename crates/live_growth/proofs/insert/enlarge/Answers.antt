use Rattle.live_growth.proofs.Ready.{ready_spare, ready_last, sights_grown}
use Rattle.live_growth.proofs.insert.enlarge.Goals as goal

pub replace-requires-clause-ready : goal.replace-requires-clause-ready
replace-requires-clause-ready c = ready_last c.args.seat.now.view c.args.room.now c.none-room.result c.requires.ready (c.none-room.ensures c.args.seat.now.view)

pub returns-then-replace : goal.returns-then-replace
returns-then-replace c =
    let v = c.args.seat.now.view in
    let w = c.replace.new.seat.view in
    let room = c.replace.new.room in
    let t = c.replace.ensures in
    let s = c.args.position in
    let met = sights_grown v w s.name c.args.key s.height t.grown c.requires.position.named in
    record { book = t.book; id = t.id; ready = ready_spare w room c.keep.new.self t.ready (c.keep.ensures.kept w t.ready.spare met); seen = t.grown.seen }

pub returns-else-replace : goal.returns-else-replace
returns-else-replace c = let t = c.replace.ensures in record { book = t.book; id = t.id; ready = t.ready; seen = t.grown.seen }
