use Rattle.share_machine.proofs.Seating.{seat_content, seat_ok}
use Rattle.share_machine.proofs.calls.seat.Goals as goal

pub returns-clause-content : goal.returns-clause-content
returns-clause-content g c = seat_content g.P.HasMeaning.meaning c.seat.result c.args.machine.now c.seat.new.self c.seat.ensures.ok c.seat.ensures.err

pub returns-clause-ok : goal.returns-clause-ok
returns-clause-ok g c = seat_ok g.P.HasMeaning.meaning c.seat.result c.args.machine.now c.seat.new.self c.seat.ensures.ok
