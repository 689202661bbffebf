use Rattle.std.proofs.Common.{◌++◌, take, arith}
use Rattle.text_schedule.proofs.Saying.{fault_within}
use Rattle.text_schedule.proofs.reading.Reading.take_all.Goals as goal

pub returns-in-Err-clause-err : goal.returns-in-Err-clause-err
returns-in-Err-clause-err c before s =
    let bytes = c.args.bytes.now in
    let i = c.loop-byte.byte-index in
    fault_within before bytes c.in-Err.error i (omega arith) (c.in-Err.ensures.err (before ++ take i bytes) (c.loop-byte.invariant before s))
