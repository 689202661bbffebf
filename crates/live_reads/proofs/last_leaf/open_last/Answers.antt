use Rattle.std.proofs.Common.{arith, ◌≢◌}
use Rattle.live_reads.proofs.Stood.{position_kept, position_beside, opened_last}
use Rattle.live_reads.proofs.last_leaf.open_last.Goals as goal

pub returns-clause-open : goal.returns-clause-open
returns-clause-open c =
    let some : c.args.last.position.name ≢ 0 = c.if-last-eq0.false in
    let k = c.requires.last (omega (arith, some)) in
    let v = c.args.seat.now.view in
    let w = c.enter.new.seat.view in
    let beside = position_beside w c.args.last.key c.args.key c.args.last.position (omega (arith, c.if-last-key.false)) (position_kept v w c.args.last.key c.args.last.position c.enter.ensures.keeps k.0) in
    opened_last c.enter.result w c.enter.new.seat.book c.args.key c.args.last.position beside k.1 c.enter.ensures.open
