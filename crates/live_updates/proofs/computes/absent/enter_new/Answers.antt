use Rattle.live_growth.proofs.Ready.{ready_kept}
use Rattle.live_updates.proofs.computes.absent.enter_new.Goals as goal

pub returns-in_default : goal.returns-in_default
returns-in_default g c =
    let t = c.reach.ensures in
    record { book = t.book; id = t.id; ready = ready_kept c.args.seat.now.view c.reach.new.seat.view c.args.room.now c.requires.ready t.keeps; tries = t.seen }

pub enter_at-requires-clause-ready : goal.enter_at-requires-clause-ready
enter_at-requires-clause-ready g c = ready_kept c.args.seat.now.view c.reach.new.seat.view c.args.room.now c.requires.ready c.reach.ensures.keeps
