use Rattle.text_run.proofs.ByRow.{by_row}
use Rattle.text_run.proofs.Ending.{by_parts}
use Rattle.text_run.proofs.laws.a_run_in_parts.Goals as goal
use Rattle.text_run.specs.inner.ByRow.{AnswersByRow}

pub returns : goal.returns
returns g c input input' output output' result = by_parts AnswersByRow by_row g.R.Read.remaining g.W.Write.contents input input' output output' result
