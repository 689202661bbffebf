use Rattle.live_growth.proofs.Ready.{ready_kept}
use Rattle.live_growth.proofs.insert.insert_new.Goals as goal

pub returns-in_default : goal.returns-in_default
returns-in_default c =
    let t = c.reach.ensures in
    record { book = t.book; id = t.id; ready = ready_kept c.args.seat.now.view c.reach.new.seat.view c.args.room.now c.requires.ready t.keeps; inserts = t.seen }

pub insert_at-requires-clause-ready : goal.insert_at-requires-clause-ready
insert_at-requires-clause-ready c = ready_kept c.args.seat.now.view c.reach.new.seat.view c.args.room.now c.requires.ready c.reach.ensures.keeps
