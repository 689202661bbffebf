use Rattle.live_growth.proofs.Ready.{ready_is_last}
use Rattle.live_growth.proofs.insert.make_room.Goals as goal

pub returns : goal.returns
returns c = let t = c.reserve.ensures in record { book = t.book; id = t.id; ready = ready_is_last c.reserve.new.seat.view c.reserve.new.room _ t.ready; seen = t.seen }
