use Rattle.spec_olc.proofs.Written.{write_empties}
use Rattle.spec_olc.proofs.laws.a_write_empties_what_it_takes_out.Goals as goal

pub returns : goal.returns
returns g c = λ old new id call env report out slot a w is. write_empties _ _ old new id call env report out slot w a is
