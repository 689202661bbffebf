use Rattle.spec_olc.proofs.Obsolete.{obsolete_stays}
use Rattle.spec_olc.proofs.laws.obsolete_stays.Goals as goal

pub returns : goal.returns
returns g c = λ old new id env report out slot a w step here obsolete. obsolete_stays _ _ old new id step.call env report out w step.in_flight slot a here obsolete report.kind step.event
