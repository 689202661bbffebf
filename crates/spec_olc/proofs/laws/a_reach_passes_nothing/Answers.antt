use Rattle.spec_olc.proofs.Settling.{reach_passes_nothing}
use Rattle.spec_olc.proofs.laws.a_reach_passes_nothing.Goals as goal

pub returns : goal.returns
returns g c = λ old new id call env report out a b n range c ok e. reach_passes_nothing _ _ old new id call env report out a b n range c ok e
