use Rattle.std.proofs.Common.{arith, ◌+◌}
use Rattle.boxcar.proofs.Spans.{top_above, span_top}
use Rattle.word_segments.proofs.Sizes.{top_few}
use Rattle.word_segments.proofs.place.shelve.Goals as goal

pub overflow_sub-shelf : goal.overflow_sub-shelf
overflow_sub-shelf c = top_above (c.args.number + 32) c.ilog2.result c.ilog2.ensures.power_le c.ilog2.ensures.next_power_gt (omega arith)

pub span_of-requires : goal.span_of-requires
span_of-requires c = let few = top_few (c.args.number + 32) c.ilog2.result c.ilog2.ensures.power_le (omega (arith, c.requires)) in omega (arith, few)

pub overflow_sub-result : goal.overflow_sub-result
overflow_sub-result c =
    let above = top_above (c.args.number + 32) c.ilog2.result c.ilog2.ensures.power_le c.ilog2.ensures.next_power_gt (omega arith) in let is = span_top c.ilog2.result above in let low = c.ilog2.ensures.power_le in
    let len = c.span_of.ensures.0 in omega (arith, is, low, len)

pub returns-clause-at : goal.returns-clause-at
returns-clause-at c =
    let low = c.ilog2.ensures.power_le in let high = c.ilog2.ensures.next_power_gt in let above = top_above (c.args.number + 32) c.ilog2.result low high (omega arith) in
    let few = top_few (c.args.number + 32) c.ilog2.result low (omega (arith, c.requires)) in let is = span_top c.ilog2.result above in let len = c.span_of.ensures.0 in
    (omega (arith, few), omega (arith, is, low, high, len), omega (arith, is, low, high, len))

pub returns-clause-shelf : goal.returns-clause-shelf
returns-clause-shelf c = let few = top_few (c.args.number + 32) c.ilog2.result c.ilog2.ensures.power_le (omega (arith, c.requires)) in omega (arith, few)
