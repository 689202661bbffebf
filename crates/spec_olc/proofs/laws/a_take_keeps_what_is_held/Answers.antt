use Rattle.spec_olc.proofs.Steps.{take_keeps}
use Rattle.spec_olc.proofs.laws.a_take_keeps_what_is_held.Goals as goal

pub returns : goal.returns
returns g c = λ old new id call next env report out t here. take_keeps _ _ old new id call next env report out t here
