use Rattle.std.proofs.Common.{◌∷◌, [], ◌++◌}
use Rattle.std.proofs.lemmas.Result.{err_from_is_err_and}
use Rattle.spec_text.specs.Lines.{ended}
use Rattle.text_run.specs.inner.Replied.{line_reply_text, head_text, items_text}
use Rattle.text_run.proofs.Replies.{head_items}
use Rattle.text_lines.proofs.Sending.{sends_with, sends_line}
use Rattle.text_run.proofs.reply.put_reply.Goals as goal

pub returns-in_err-make_room-clause-err : goal.returns-in_err-make_room-clause-err
returns-in_err-make_room-clause-err g c =
    let p = err_from_is_err_and c.from_residual.result c.from_residual.ensures.1 in
    let b = c.in_err-make_room.ensures.broken in
    let line = ended (line_reply_text c.args.reply.now) in
    rw p.1 (b.0 ++ line, sends_with line b.1)

pub returns-in_err-put_items-clause-err : goal.returns-in_err-put_items-clause-err
returns-in_err-put_items-clause-err g c =
    let p = err_from_is_err_and c.from_residual-in_err-put_items.result c.from_residual-in_err-put_items.ensures.1 in
    let reply = c.args.reply.now in
    let b = rw c.add_head.ensures.text at c.in_err-put_items.ensures.err in
    rw p.1 (
      b.0 ++ 10 ∷ [],
      sends_line c.args.pending.now (head_text reply) (items_text reply) (line_reply_text reply) (head_items reply) c.in_ok-make_room.ensures.sent b.1,
    )

pub returns-clause-ok : goal.returns-clause-ok
returns-clause-ok g c =
    let reply = c.args.reply.now in
    let sent = rw c.add_head.ensures.text at c.in_ok-put_items.ensures.ok in
    rw c.add.ensures (
    sends_line c.args.pending.now (head_text reply) (items_text reply) (line_reply_text reply) (head_items reply) c.in_ok-make_room.ensures.sent sent
    )
