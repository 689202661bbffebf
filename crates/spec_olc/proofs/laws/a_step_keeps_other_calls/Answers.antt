use Rattle.spec_olc.proofs.Steps.{others_stay}
use Rattle.spec_olc.proofs.laws.a_step_keeps_other_calls.Goals as goal

pub returns : goal.returns
returns g c = λ old new id env report out step other ne. others_stay _ _ old new id step.call step.call env report out other ne report.kind step.event
