use Rattle.spec_olc.proofs.Owed.{gave_seen}
use Rattle.spec_olc.proofs.laws.a_range_gives_what_it_read.Goals as goal

pub returns : goal.returns
returns g c = λ old new id call env report out key value checks ok e. gave_seen _ _ old new id call env report out key value checks ok e
