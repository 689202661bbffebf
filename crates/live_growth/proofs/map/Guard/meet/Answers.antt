use Rattle.live_growth.proofs.Ready.{ready_met}
use Rattle.live_growth.proofs.map.Guard.meet.Goals as goal

pub invariant_of-self : goal.invariant_of-self
invariant_of-self c =
    let t = c.meet.ensures.met in
    let k = t.4.first in
    ready_met c.self.inside.seat.view c.meet.new.a.view t.0 c.self.inside.room c.self.invariant t.2 k.is

pub invariant_of-other : goal.invariant_of-other
invariant_of-other c =
    let t = c.meet.ensures.met in
    let k = t.4.second in
    ready_met c.other.inside.seat.view c.meet.new.b.view t.1 c.other.inside.room c.other.invariant t.3 k.is
