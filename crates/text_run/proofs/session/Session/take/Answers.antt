use Rattle.std.proofs.lemmas.Result.{on_err_weaker}
use Rattle.text_lines.proofs.Cutting.{on_ok_two}
use Rattle.text_run.proofs.Running.{serves_byte, serves_line_to, breaks_line}
use Rattle.text_run.proofs.session.Session.take.Goals as goal

pub returns-then-byte-eq10-clause-ok : goal.returns-then-byte-eq10-clause-ok
returns-then-byte-eq10-clause-ok g c old before s =
    on_ok_two c.answer.result (λ t none. serves_line_to c.args.byte c.if-byte-eq10.true none s t) c.answer.ensures.ok c.answer.ensures.line

pub returns-then-byte-eq10-clause-err : goal.returns-then-byte-eq10-clause-err
returns-then-byte-eq10-clause-err g c old before s = on_err_weaker c.answer.result (λ b. breaks_line c.args.byte c.if-byte-eq10.true s b) c.answer.ensures.err

pub returns-clause-ok : goal.returns-clause-ok
returns-clause-ok g c old before s = rw c.push.ensures (serves_byte c.args.byte c.if-byte-eq10.false s)
