use Rattle.std.proofs.Common.{◌≤◌, ◌∷◌, [], ◌++◌, length, arith, length-append}
use Rattle.spec_text.specs.Events.{events_of}
use Rattle.text_schedule.proofs.Saying.{say_more, few_lines}
use Rattle.text_schedule.proofs.reading.Reading.judge.Goals as goal

pub returns-in_default-clause-err : goal.returns-in_default-clause-err
returns-in_default-clause-err c line lines held parsed_lines =
    (omega (arith, few_lines parsed_lines.parsed, parsed_lines.count, c.saturating_add-number.ensures), c.in_default.ensures.bad line held)

pub returns-clause-ok : goal.returns-clause-ok
returns-clause-ok c line lines held parsed_lines =
    let events = c.args.self.now.events.items in
    let few : length (events ++ events_of c.in-Some.entry) ≤ 100000 =
    omega (arith, length-append events (events_of c.in-Some.entry), c.saturating_add.ensures, c.event_count-count.ensures, c.len.ensures, c.if-saturating_add-gt-MAX_EVENTS.false) in
    record {
      parsed = rw c.in-Ok.ensures (say_more line c.in-Some.entry parsed_lines.parsed (c.in-Some.ensures.parsed line held) few);
      count = omega (arith, few_lines parsed_lines.parsed, parsed_lines.count, c.saturating_add-number.ensures, length-append lines (line ∷ []));
    }
