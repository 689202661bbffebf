use Rattle.spec_olc.proofs.Cleaning.{decides_nothing}
use Rattle.spec_olc.proofs.laws.a_cleanup_decides_nothing.Goals as goal

pub returns : goal.returns
returns g c = λ old new id call env report out here point decided step. decides_nothing g.P.Payload.always_shared g.P.HasMeaning.same_meaning old new id call env report out here point decided step
