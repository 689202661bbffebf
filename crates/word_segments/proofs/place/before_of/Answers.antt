use Rattle.std.proofs.Common.{arith}
use Rattle.word_segments.proofs.Sizes.{before_near_shifted, before_far}
use Rattle.word_segments.proofs.place.before_of.Goals as goal

pub overflow_sub-result : goal.overflow_sub-result
overflow_sub-result c = (before_near_shifted c.args.number c.if-number-lt224.true).0

pub returns-then-number-lt224 : goal.returns-then-number-lt224
returns-then-number-lt224 c = let b = before_near_shifted c.args.number c.if-number-lt224.true in (b.1, omega (arith, b))

pub returns-else-number-lt224 : goal.returns-else-number-lt224
returns-else-number-lt224 c = (before_far c.args.number c.if-number-lt224.false, omega (arith, c.requires, c.if-number-lt224.false))
