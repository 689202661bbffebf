use Rattle.spec_olc.proofs.Cleaning.{keeps_cleaning}
use Rattle.spec_olc.proofs.laws.only_a_write_begins_a_cleanup.Goals as goal

pub returns : goal.returns
returns g c = λ old new id call next env report out here step more other there. keeps_cleaning g.P.Payload.always_shared g.P.HasMeaning.same_meaning old new id call next env report out here step more other there
