use Rattle.text_schedule.proofs.ByParts.{by_parts}
use Rattle.text_schedule.proofs.laws.a_schedule_in_parts.Goals as goal

pub returns : goal.returns
returns g c detail input input' output output' result = by_parts detail g.R.Read.remaining g.W.Write.contents input input' output output' result
