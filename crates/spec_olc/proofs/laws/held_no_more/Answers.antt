use Rattle.spec_olc.proofs.Steps.{unlock_frees, obsolete_frees}
use Rattle.spec_olc.proofs.laws.held_no_more.Goals as goal

pub returns-clause-unlocked : goal.returns-clause-unlocked
returns-clause-unlocked g c = λ old new id call next env report out slot u at here. unlock_frees _ _ old new id call next env report out slot u at here

pub returns-clause-obsolete : goal.returns-clause-obsolete
returns-clause-obsolete g c = λ old new id call next env report out slot u at here. obsolete_frees _ _ old new id call next env report out slot u at here
