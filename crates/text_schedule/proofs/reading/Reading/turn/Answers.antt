use Rattle.std.proofs.Common.{◌++◌, Err, take, ap, arith}
use Rattle.std.proofs.lemmas.Bool.Decides.{nat_tests}
use Rattle.text_lines.proofs.Sending.{consumes_more}
use Rattle.text_schedule.proofs.Ending.{turns_err}
use Rattle.text_schedule.proofs.reading.Reading.turn.Goals as goal

pub returns-in-Err-clause-turns : goal.returns-in-Err-clause-turns
returns-in-Err-clause-turns g c first s =
    let bytes = take c.in-Ok.count c.read.new.buf in
    turns_err c.take_all.new.self first _ c.in-Err.error (λ e. c.in-Err.ensures.no_read (ap Err e)) (record {
      taken = s.taken ++ bytes;
      reads = consumes_more _ _ _ s.taken bytes s.reads c.in-Ok.ensures.bytes.0;
      found = c.in-Err.ensures.err s.taken s.read;
    })

pub returns-clause-turns : goal.returns-clause-turns
returns-clause-turns g c first s =
    let bytes = take c.in-Ok.count c.read.new.buf in (
      record {
        taken = s.taken ++ bytes;
        reads = consumes_more _ _ _ s.taken bytes s.reads c.in-Ok.ensures.bytes.0;
        read = c.in_default-take_all.ensures.ok s.taken s.read;
      },
      λ none. c.in-Ok.ensures.bytes.1 (grind (arith, nat_tests)) (omega arith),
    )
