use Rattle.std.proofs.Common.{◌∙◌}
use Rattle.live_copies.proofs.Listed.{all_written}
use Rattle.live_copies.proofs.numbers.numbers_of.Goals as goal

pub returns : goal.returns
returns g c =
    let numbers = c.in_ok-numbers.numbers in
    let long = c.in_ok-numbers.ensures.len ∙ c.in-Ok.ensures.1 ∙ c.value_count.ensures in
    all_written c.args.owned.now.pairs numbers.items c.deref_mut.result.now c.range_inclusive_of.new.buffer numbers.len c.range_inclusive_of.result c.law_ordered.ensures long c.deref_mut.ensures.len c.range_inclusive_of.ensures.count c.range_inclusive_of.ensures.written
