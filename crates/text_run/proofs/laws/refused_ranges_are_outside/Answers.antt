use Rattle.text_run.proofs.Ending.{by_parts}
use Rattle.text_run.proofs.RefusedRanges.{without_refused_ranges}
use Rattle.text_run.proofs.laws.refused_ranges_are_outside.Goals as goal
use Rattle.text_run.specs.inner.RefusedRanges.{AnswersWithoutRefusedRanges}

pub returns : goal.returns
returns g c input input' output output' result =
    by_parts AnswersWithoutRefusedRanges without_refused_ranges g.R.Read.remaining g.W.Write.contents input input' output output' result
