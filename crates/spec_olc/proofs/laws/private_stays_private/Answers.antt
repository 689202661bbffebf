use Rattle.std.proofs.Common.{◌∙◌}
use Rattle.spec_olc.proofs.Standing.{private_stays}
use Rattle.spec_olc.proofs.laws.private_stays_private.Goals as goal

pub returns : goal.returns
returns g c = λ old new id env report out slot a b w step no here p there. private_stays _ _ old new id step.call env report out w step.in_flight slot a here p report.kind no step.event b there ∙ p
