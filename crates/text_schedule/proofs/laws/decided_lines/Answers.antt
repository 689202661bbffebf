use Rattle.text_schedule.proofs.Decided.{lines_decide}
use Rattle.text_schedule.proofs.laws.decided_lines.Goals as goal

pub returns : goal.returns
returns c = lines_decide
