use Rattle.text_lines.proofs.Cutting.{on_ok_two}
use Rattle.text_schedule.proofs.Saying.{if_err_weaker, reads_line, fault_line}
use Rattle.text_schedule.proofs.reading.Reading.take.Goals as goal

pub returns-then-byte-eq10-clause-ok : goal.returns-then-byte-eq10-clause-ok
returns-then-byte-eq10-clause-ok c before s =
    on_ok_two c.judge.result (λ parsed_lines next. reads_line c.args.byte c.if-byte-eq10.true s next parsed_lines) (c.judge.ensures.ok s.rest s.whole s.held s.parsed_lines) c.judge.ensures.next

pub returns-then-byte-eq10-clause-err : goal.returns-then-byte-eq10-clause-err
returns-then-byte-eq10-clause-err c before s =
    if_err_weaker c.judge.result (λ e f. fault_line e c.args.byte c.if-byte-eq10.true s f) (c.judge.ensures.err s.rest s.whole s.held s.parsed_lines)
