use Rattle.text_lines.proofs.Sending.{sends_regrouped}
use Rattle.text_trace.proofs.Texts.{text_is}
use Rattle.text_trace.proofs.printing.write_trace.Goals as goal

pub returns-in-Ok-write_all-clause-ok : goal.returns-in-Ok-write_all-clause-ok
returns-in-Ok-write_all-clause-ok g c =
    let trace = c.args.trace.now in
    let sent = rw c.in-Ok.ensures.empty at c.in-Ok-write_all.ensures.ok in
    sends_regrouped (text_is c.args.detail c.args.events.now trace.lines.items trace.decided.items trace.content.items) sent

pub returns-clause-broken : goal.returns-clause-broken
returns-clause-broken g c = λ e.
    let trace = c.args.trace.now in
    let part = rw c.in-Ok.ensures.empty at c.in-Err.ensures.err in
    (part.0, sends_regrouped (text_is c.args.detail c.args.events.now trace.lines.items trace.decided.items trace.content.items) part.1)
