use Rattle.std.proofs.Common.{arith, ◌+◌}
use Rattle.word_segments.proofs.Sizes.{is_top, least_number, within_near_shifted, group_few}
use Rattle.word_segments.proofs.place.locate_near.Goals as goal

pub overflow_sub-result : goal.overflow_sub-result
overflow_sub-result c = least_number (c.args.place + 16384) c.ilog2-top.result (is_top (c.args.place + 16384) c.ilog2-top.result (omega arith) (omega (arith, c.requires)) c.ilog2-top.ensures.power_le c.ilog2-top.ensures.next_power_gt)

pub returns-clause-within : goal.returns-clause-within
returns-clause-within c = within_near_shifted c.args.place c.ilog2-top.result c.requires (is_top (c.args.place + 16384) c.ilog2-top.result (omega arith) (omega (arith, c.requires)) c.ilog2-top.ensures.power_le c.ilog2-top.ensures.next_power_gt)

pub returns-clause-small : goal.returns-clause-small
returns-clause-small c = group_few (c.args.place + 16384) c.ilog2-top.result (is_top (c.args.place + 16384) c.ilog2-top.result (omega arith) (omega (arith, c.requires)) c.ilog2-top.ensures.power_le c.ilog2-top.ensures.next_power_gt)
