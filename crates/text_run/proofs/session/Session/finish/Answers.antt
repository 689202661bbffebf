use Rattle.std.proofs.lemmas.Result.{err_from_is_err_and}
use Rattle.text_lines.proofs.Cutting.{on_ok_from, on_err_from}
use Rattle.text_run.proofs.Running.{tells_all_part, serves_all_sent, serves_all_kept}
use Rattle.text_run.proofs.session.Session.finish.Goals as goal

pub returns-in_err-answer_last-clause-err : goal.returns-in_err-answer_last-clause-err
returns-in_err-answer_last-clause-err g c old bytes s =
    let p = err_from_is_err_and c.from_residual.result c.from_residual.ensures.1 in
    rw p.1 (c.in_err-answer_last.ensures.err old bytes s)

pub returns-in_err-send_to-clause-err : goal.returns-in_err-send_to-clause-err
returns-in_err-send_to-clause-err g c old bytes s =
    let p = err_from_is_err_and c.from_residual-in_err-send_to.result c.from_residual-in_err-send_to.ensures.1 in
    rw p.1 (tells_all_part (serves_all_sent (c.in_ok-answer_last.ensures.ok old bytes s) c.in_err-send_to.ensures.broken.1))

pub returns-clause-ok : goal.returns-clause-ok
returns-clause-ok g c old bytes s =
    on_ok_from c.flush.result (serves_all_kept (serves_all_sent (c.in_ok-answer_last.ensures.ok old bytes s) c.in_ok-send_to.ensures.sent) c.flush.ensures.bytes)

pub returns-clause-err : goal.returns-clause-err
returns-clause-err g c old bytes s =
    on_err_from c.flush.result (tells_all_part (serves_all_kept (serves_all_sent (c.in_ok-answer_last.ensures.ok old bytes s) c.in_ok-send_to.ensures.sent) c.flush.ensures.bytes))
