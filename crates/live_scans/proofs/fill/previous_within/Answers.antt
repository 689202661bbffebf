use Rattle.std.proofs.Common.{arith}
use Rattle.live_scans.proofs.Lists.{previous_child, none_within}
use Rattle.live_scans.proofs.fill.previous_within.Goals as goal

pub returns-then-byte-first-clause-is : goal.returns-then-byte-first-clause-is
returns-then-byte-first-clause-is g c = λ w n a e f s.
    none_within n c.args.from c.args.first (c.in_ok-byte.byte, c.in_ok-byte.word) (omega arith) (c.in_ok-byte.ensures.is w n a e f)

pub returns-then-byte-from-clause-is : goal.returns-then-byte-from-clause-is
returns-then-byte-from-clause-is g c = λ w n a e f s.
    let near = c.in_ok-byte.ensures.is w n a e f in
    let low = near.0 in
    absurd (omega (arith, low))

pub returns-clause-is : goal.returns-clause-is
returns-clause-is g c = λ w n a e f s.
    previous_child w n c.args.from c.args.first (c.in_ok-byte.byte, c.in_ok-byte.word) e s (omega arith) (c.in_ok-byte.ensures.is w n a e f)
