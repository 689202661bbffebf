use Rattle.spec_olc.proofs.Settling.{leaves_all}
use Rattle.spec_olc.proofs.laws.a_check_decides_what_changes_nothing.Goals as goal

pub returns : goal.returns
returns g c = λ old new id call env report out c ok reply e op is. leaves_all _ _ old new id call env report out c ok reply e op is
