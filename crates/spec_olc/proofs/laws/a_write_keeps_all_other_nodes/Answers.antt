use Rattle.spec_olc.proofs.Written.{write_keeps}
use Rattle.spec_olc.proofs.laws.a_write_keeps_all_other_nodes.Goals as goal

pub returns : goal.returns
returns g c = λ old new id call env report out slot w other not_made kept. write_keeps _ _ old new id call env report out slot w other not_made kept
