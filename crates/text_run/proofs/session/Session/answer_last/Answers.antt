use Rattle.std.proofs.lemmas.Bool.{iff_false}
use Rattle.std.proofs.lemmas.Result.{on_ok_weaker, on_err_weaker}
use Rattle.text_run.proofs.Running.{serves_all_none, serves_all_line, stops_last}
use Rattle.text_run.proofs.session.Session.answer_last.Goals as goal

pub returns-then-is_empty-clause-ok : goal.returns-then-is_empty-clause-ok
returns-then-is_empty-clause-ok g c old bytes s = serves_all_none _ (c.is_empty.ensures.0 c.if-is_empty.true) s

pub returns-clause-ok : goal.returns-clause-ok
returns-clause-ok g c old bytes s =
    on_ok_weaker c.answer.result (λ t. serves_all_line (iff_false c.is_empty.ensures c.if-is_empty.false) s t) c.answer.ensures.ok

pub returns-clause-err : goal.returns-clause-err
returns-clause-err g c old bytes s =
    on_err_weaker c.answer.result (λ b. stops_last (iff_false c.is_empty.ensures c.if-is_empty.false) s b) c.answer.ensures.err
