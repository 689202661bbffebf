use Rattle.std.proofs.lemmas.Bool.{iff_false}
use Rattle.text_schedule.proofs.Saying.{fault_at_end}
use Rattle.text_schedule.proofs.reading.Reading.end.Goals as goal

pub returns-in-Err-clause-err : goal.returns-in-Err-clause-err
returns-in-Err-clause-err c bytes s =
    fault_at_end c.in-Err.error (iff_false c.is_empty.ensures c.if-not-is_empty.true) s (c.in-Err.ensures.err s.rest s.whole s.held s.parsed_lines)
