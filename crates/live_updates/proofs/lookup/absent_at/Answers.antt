use Rattle.std.proofs.Common.{rules}
use Rattle.live_updates.proofs.Seeks.{lacks_so, lacks_not}
use Rattle.live_updates.proofs.lookup.absent_at.Goals as goal

pub returns-then-is_absent : goal.returns-then-is_absent
returns-then-is_absent g c =
    let t = c.is_absent.ensures in
    record { book = t.book; id = t.id; keeps = t.keeps; sought = lacks_so g.Q.Lookups.lookup c.is_absent.result c.args.seat.now.view c.is_absent.new.seat.view (search rules) t.lacks }

pub returns : goal.returns
returns g c =
    let t = c.is_absent.ensures in
    record { book = t.book; id = t.id; keeps = t.keeps; sought = lacks_not g.Q.Lookups.lookup c.is_absent.result c.args.seat.now.view c.is_absent.new.seat.view (search rules) t.lacks }
