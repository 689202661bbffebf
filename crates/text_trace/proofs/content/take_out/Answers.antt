use Rattle.std.proofs.Common.{sym, ◌∙◌}
use Rattle.text_trace.proofs.Places.{without_first, without_nowhere}
use Rattle.text_trace.proofs.content.take_out.Goals as goal

pub returns-in-Some-clause-pairs : goal.returns-in-Some-clause-pairs
returns-in-Some-clause-pairs c =
    c.remove.ensures.items ∙ sym (without_first c.args.key c.args.pairs.now.items c.in-Some.at (rw c.deref.ensures.value at c.in-Some.ensures.found))

pub returns-in-None-clause-pairs : goal.returns-in-None-clause-pairs
returns-in-None-clause-pairs c =
    sym (without_nowhere c.args.key c.args.pairs.now.items (rw c.deref.ensures.value at c.in-None.ensures.absent))
