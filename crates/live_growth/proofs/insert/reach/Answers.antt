use Rattle.std.proofs.Common.{arith, refl}
use Rattle.live_reads.proofs.Stood.{position_below}
use Rattle.live_growth.proofs.insert.reach.Goals as goal

pub returns-clause-leaf : goal.returns-clause-leaf
returns-clause-leaf c =
    let node = c.in_ok-here.ensures.open in
    let inner = c.requires.inner in
    (position_below c.args.seat.now.view c.enter.new.seat.view c.args.key c.args.above c.args.name 1 c.enter.ensures.keeps c.requires.above node.names (omega arith) (omega (arith, inner)), refl, node)
