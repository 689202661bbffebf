use Rattle.std.proofs.Common.{arith}
use Rattle.live_layout.proofs.ChildLaws.{next_child, none_within}
use Rattle.live_layout.proofs.page.next_within.Goals as goal

pub returns-then-byte-last-clause-is : goal.returns-then-byte-last-clause-is
returns-then-byte-last-clause-is g c = λ w n a e f s.
    none_within n c.args.from c.args.last (c.in_ok-byte.byte, c.in_ok-byte.word) (omega arith) (c.in_ok-byte.ensures.is w n a e f)

pub returns-then-byte-from-clause-is : goal.returns-then-byte-from-clause-is
returns-then-byte-from-clause-is g c = λ w n a e f s.
    let near = c.in_ok-byte.ensures.is w n a e f in
    let low = near.0 in
    absurd (omega (arith, low))

pub returns-clause-is : goal.returns-clause-is
returns-clause-is g c = λ w n a e f s.
    next_child w n c.args.from c.args.last (c.in_ok-byte.byte, c.in_ok-byte.word) e s (omega arith) (c.in_ok-byte.ensures.is w n a e f)
