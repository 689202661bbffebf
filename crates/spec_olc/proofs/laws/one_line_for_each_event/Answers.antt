use Rattle.spec_olc.proofs.Lines.{line_for_each}
use Rattle.spec_olc.proofs.laws.one_line_for_each_event.Goals as goal

pub returns : goal.returns
returns c = line_for_each
