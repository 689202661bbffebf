use Rattle.std.proofs.Common.{Err, ◌∙◌, refl, ap}
use Rattle.text_schedule.proofs.Ending.{never_failed}
use Rattle.text_schedule.proofs.schedule.schedule.Goals as goal

pub returns-in_default : goal.returns-in_default
returns-in_default g c =
    let read = c.in_ok-events.ensures in
    (read.0.0, read.1 ∙ never_failed _ c.requires.input, refl)

pub returns-in-Ok-write_trace : goal.returns-in-Ok-write_trace
returns-in-Ok-write_trace g c =
    let read = c.in_ok-events.ensures in
    let trace = c.in-Ok.trace in (
      (
        read.0.0,
        read.0.1,
        read.0.2,
        record {
          happened = trace.lines.items;
          decided = trace.decided.items;
          content = trace.content.items;
          replayed = rw (c.deref.ensures.value, read.0.3) at c.in-Ok.ensures;
          sends = rw (c.deref-2.ensures.value, read.0.3) at c.in-Ok-write_trace.ensures.ok;
        },
      ),
      read.1 ∙ never_failed _ c.requires.input,
      c.in-Ok-write_trace.ensures.kept ∙ never_failed _ c.requires.output,
    )

pub returns : goal.returns
returns g c =
    let read = c.in_ok-events.ensures in
    let trace = c.in-Ok.trace in
    let error = ap Err c.in-Err-Write.field-0-is in
    let part = c.in-Err-Write.ensures.broken error in (
      (
        part.0,
        (
          read.0.0,
          read.0.1,
          read.0.2,
          record {
            happened = trace.lines.items;
            decided = trace.decided.items;
            content = trace.content.items;
            replayed = rw (c.deref.ensures.value, read.0.3) at c.in-Ok.ensures;
            sends = rw (c.deref-2.ensures.value, read.0.3) at part.1;
          },
        ),
      ),
      read.1 ∙ never_failed _ c.requires.input,
      c.in-Err-Write.ensures.failed error,
    )
