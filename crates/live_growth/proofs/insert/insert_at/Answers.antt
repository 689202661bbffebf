use Rattle.live_growth.specs.Calls.{IsReady}
use Rattle.live_growth.specs.declared.link.Room.{Room}
use Rattle.live_growth.proofs.Ready.{ready_rest, ready_last}
use Rattle.live_growth.proofs.StoodOn.{position_rest}
use Rattle.live_growth.proofs.insert.insert_at.Goals as goal
use Rattle.live_growth.proofs.insert.insert_at.Goals.{After-insert_here}

module _ (c : After-insert_here) where
  abbrev room : Room
  room = record c.args.room.now { last = record { key = c.args.key; position = c.args.end.position } }

  ready : IsReady c.args.seat.now.view room
  ready = ready_last c.args.seat.now.view c.args.room.now room.last c.requires.ready (λ _. (c.requires.position, c.requires.low))

  rests : IsReady c.insert_here.new.seat.view room
  rests = ready_rest c.args.seat.now.view c.insert_here.new.seat.view room ready c.insert_here.ensures.rest

pub returns-in-Ok : goal.returns-in-Ok
returns-in-Ok c =
    let l = c.insert_here.ensures in
    record { book = l.book; id = l.id; ready = rests (goal.at.returns-in-Ok c).After-insert_here; inserts = c.in-Ok.ensures.done }

pub enlarge-requires-clause-ready : goal.enlarge-requires-clause-ready
enlarge-requires-clause-ready c = rests (goal.at.enlarge-requires-clause-ready c).After-insert_here

pub enlarge-requires-clause-position : goal.enlarge-requires-clause-position
enlarge-requires-clause-position c = position_rest c.args.seat.now.view c.insert_here.new.seat.view c.args.key c.args.end.position c.insert_here.ensures.rest c.requires.position

pub returns-in-Err-Busy : goal.returns-in-Err-Busy
returns-in-Err-Busy c =
    let l = c.insert_here.ensures in
    record { book = l.book; id = l.id; ready = rests (goal.at.returns-in-Err-Busy c).After-insert_here; inserts = c.in-Err-Busy.ensures.seen }
