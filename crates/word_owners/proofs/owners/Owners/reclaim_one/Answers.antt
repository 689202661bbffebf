use Rattle.std.proofs.Common.{◌%◌}
use Rattle.word_owners.proofs.Handles.{left_peeking, unlent}
use Rattle.word_owners.proofs.owners.Owners.reclaim_one.Goals as goal

pub reclaim-requires-clause-unlent : goal.reclaim-requires-clause-unlent
reclaim-requires-clause-unlent c =
    let v = c.args.seat.now.view in let w = c.peek-owner.new.seat.view in
    let row = left_peeking v w (c.args.ticket % 4294967296) c.peek-owner.result c.peek-owner.ensures.peeked in
    unlent v w c.args.ticket c.args.found.now row c.requires.retired c.requires.scanned (c.is_announced.ensures.absent c.if-is_announced.false)
