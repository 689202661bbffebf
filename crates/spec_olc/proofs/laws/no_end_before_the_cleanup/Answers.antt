use Rattle.spec_olc.proofs.Owed.{cleans_first}
use Rattle.spec_olc.proofs.laws.no_end_before_the_cleanup.Goals as goal

pub returns : goal.returns
returns g c = λ old new id call env report out point cleans f. cleans_first _ _ old new id call env report out point cleans f
