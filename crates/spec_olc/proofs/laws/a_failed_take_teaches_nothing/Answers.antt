use Rattle.spec_olc.proofs.Steps.{failed_take}
use Rattle.spec_olc.proofs.laws.a_failed_take_teaches_nothing.Goals as goal

pub returns : goal.returns
returns g c = λ old new id call next env report out t fails here slot. failed_take _ _ old new id call next env report out t fails here slot
