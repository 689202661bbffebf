use Rattle.std.proofs.Common.{rules}
use Rattle.std.proofs.lemmas.Result.{err_from_is_err_and}
use Rattle.text_run.proofs.session.Session.answer.Goals as goal

pub returns-in_err-put_reply-clause-err : goal.returns-in_err-put_reply-clause-err
returns-in_err-put_reply-clause-err g c =
    let p = err_from_is_err_and c.from_residual.result c.from_residual.ensures.1 in
    let b = c.in_err-put_reply.ensures.err in
    rw p.1 (record { after = _; rest = b.0; takes = record { text = _; answers = c.reply_to-reply.ensures; sends = b.1 } })

pub returns-clause-ok : goal.returns-clause-ok
returns-clause-ok g c = record { text = _; answers = c.reply_to-reply.ensures; sends = c.in_ok-put_reply.ensures.ok }

pub returns-clause-line : goal.returns-clause-line
returns-clause-line g c = search rules
