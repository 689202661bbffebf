use Rattle.spec_olc.proofs.Same.{state_same}
use Rattle.spec_olc.proofs.laws.numbers_mean_themselves.Goals as goal

pub returns : goal.returns
returns c = state_same
