use Rattle.spec_olc.proofs.Written.{write_publishes}
use Rattle.spec_olc.proofs.laws.a_write_publishes_what_was_made.Goals as goal

pub returns : goal.returns
returns g c = λ old new id call env report out slot a w mine not_held here. write_publishes _ _ old new id call env report out slot w a mine not_held here
