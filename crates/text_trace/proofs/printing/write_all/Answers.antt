use Rattle.std.proofs.Common.{[], ◌++◌}
use Rattle.std.proofs.lemmas.Result.{err_from_is_err_and}
use Rattle.spec_text.specs.Lines.{ended}
use Rattle.text_lines.proofs.Cutting.{on_ok_from, on_err_from}
use Rattle.text_lines.proofs.Sending.{sends_more, sends_on, sends_with, sends_kept}
use Rattle.spec_text.specs.Texts.{content_text}
use Rattle.text_trace.proofs.printing.write_all.Goals as goal

pub returns-in_err-put_events-clause-err : goal.returns-in_err-put_events-clause-err
returns-in_err-put_events-clause-err g c =
    let p = err_from_is_err_and c.from_residual.result c.from_residual.ensures.1 in
    let content = ended (content_text c.args.trace.now.content.items) in
    let b = rw (c.new-pending.ensures, c.deref.ensures.value, c.deref-2.ensures.value) at c.in_err-put_events.ensures.err in
    rw p.1 (b.0 ++ content, sends_with content b.1)

pub returns-in_err-put_content-clause-err : goal.returns-in_err-put_content-clause-err
returns-in_err-put_content-clause-err g c =
    let p = err_from_is_err_and c.from_residual-in_err-put_content.result c.from_residual-in_err-put_content.ensures.1 in
    let content = ended (content_text c.args.trace.now.content.items) in
    let traced = rw (c.new-pending.ensures, c.deref.ensures.value, c.deref-2.ensures.value) at c.in_ok-put_events.ensures.ok in
    let b = rw c.deref-3.ensures.value at c.in_err-put_content.ensures.err in
    rw p.1 (b.0, sends_more content traced b.1)

pub returns-in_err-send_to-clause-err : goal.returns-in_err-send_to-clause-err
returns-in_err-send_to-clause-err g c =
    let p = err_from_is_err_and c.from_residual-in_err-send_to.result c.from_residual-in_err-send_to.ensures.1 in
    let content = ended (content_text c.args.trace.now.content.items) in
    let traced = rw (c.new-pending.ensures, c.deref.ensures.value, c.deref-2.ensures.value) at c.in_ok-put_events.ensures.ok in
    let all = sends_more content traced (rw c.deref-3.ensures.value at c.in_ok-put_content.ensures.ok) in
    let b = c.in_err-send_to.ensures.broken in
    rw p.1 (b.0, sends_on all b.1)

pub returns-clause-ok : goal.returns-clause-ok
returns-clause-ok g c =
    let content = ended (content_text c.args.trace.now.content.items) in
    let traced = rw (c.new-pending.ensures, c.deref.ensures.value, c.deref-2.ensures.value) at c.in_ok-put_events.ensures.ok in
    let all = sends_more content traced (rw c.deref-3.ensures.value at c.in_ok-put_content.ensures.ok) in
    on_ok_from c.flush.result (sends_kept (sends_on all c.in_ok-send_to.ensures.sent) c.flush.ensures.bytes)

pub returns-clause-err : goal.returns-clause-err
returns-clause-err g c =
    let content = ended (content_text c.args.trace.now.content.items) in
    let traced = rw (c.new-pending.ensures, c.deref.ensures.value, c.deref-2.ensures.value) at c.in_ok-put_events.ensures.ok in
    let all = sends_more content traced (rw c.deref-3.ensures.value at c.in_ok-put_content.ensures.ok) in
    on_err_from c.flush.result ([], sends_kept (sends_on all c.in_ok-send_to.ensures.sent) c.flush.ensures.bytes)
