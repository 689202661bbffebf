use Rattle.spec_olc.proofs.Standing.{upgrade_in_use}
use Rattle.spec_olc.proofs.laws.obsolete_is_never_upgraded.Goals as goal

pub returns : goal.returns
returns g c = λ old new id call env report out slot a u at ok here obsolete. absurd (upgrade_in_use _ _ old new id call env report out u slot a at ok here obsolete)
