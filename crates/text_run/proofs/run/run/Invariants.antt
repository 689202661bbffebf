use Rattle.std.proofs.Common.{◌≡◌}
use Rattle.text_run.specs.inner.Session.{ServesInput}
use Rattle.text_run.proofs.run.run.Given as goal

abbrev pub invariant-loop-error : goal.invariant-loop-error
invariant-loop-error g l = record {
  runs : ServesInput l.session.map.pairs l.session.line l.session.pending
      (g.R.Read.remaining l.fn.input.inner) (g.R.Read.remaining l.input.inner) (g.W.Write.contents l.fn.output.inner) (g.W.Write.contents l.output.inner);
  input : l.input.failed ≡ l.fn.input.failed;
  output : l.output.failed ≡ l.fn.output.failed;
}

abbrev pub decreases-loop-error : goal.decreases-loop-error
decreases-loop-error g l = l.input.calls_left
