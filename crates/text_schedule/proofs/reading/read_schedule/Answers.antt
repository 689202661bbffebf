use Rattle.std.proofs.Common.{ℕ, List, Vec, Global, Err, ap, ◌∙◌}
use Rattle.spec_olc.specs.declared.types.Event.{Event}
use Rattle.text_schedule.proofs.Ending.{breaks_off, ends_all}
use Rattle.text_schedule.proofs.reading.read_schedule.Goals as goal

abbrev items_of : Vec (Event ℕ) Global → List (Event ℕ)
items_of events = events.items

pub returns-in-Err : goal.returns-in-Err
returns-in-Err g c =
    breaks_off g.R.Read.remaining items_of c.args.input.now c.turn.new.input c.turn.new.self c.in-Err.error
    (c.in-Err.ensures.turns _ c.loop-error.invariant.reads)
    (λ other. c.in-Err.ensures.kept (λ e. other cc) ∙ c.loop-error.invariant.input)
    (λ e. c.in-Err.ensures.read_failed (ap Err e))

pub returns : goal.returns
returns g c =
    let t = c.in-Ok-false.ensures.turns _ c.loop-error.invariant.reads in
    ends_all g.R.Read.remaining items_of c.args.input.now c.turn.new.input _ c.end.result
    t.0.reads (t.1 c.in-Ok-false.field-0-test) (c.end.ensures.ok _ t.0.read) (c.end.ensures.err _ t.0.read) c.end.ensures.no_read
    (c.in-Ok-false.ensures.kept (λ e. cc) ∙ c.loop-error.invariant.input)
