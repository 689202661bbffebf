use Rattle.std.proofs.Common.{◌≡◌}
use Rattle.text_schedule.specs.inner.Reading.{ReadsInput}
use Rattle.text_schedule.proofs.reading.read_schedule.Given as goal

abbrev pub invariant-loop-error : goal.invariant-loop-error
invariant-loop-error g l = record {
  reads : ReadsInput (g.R.Read.remaining l.fn.input.inner) (g.R.Read.remaining l.input.inner) l.reading;
  input : l.input.failed ≡ l.fn.input.failed;
}

abbrev pub decreases-loop-error : goal.decreases-loop-error
decreases-loop-error g l = l.input.calls_left
