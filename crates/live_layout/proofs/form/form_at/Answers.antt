use Rattle.std.proofs.Common.{arith, ◌∙◌, sym}
use Rattle.live_layout.proofs.StandLaws.{in_place-0, in_place-1, in_place-2, in_place-3}
use Rattle.live_layout.proofs.form.form_at.Goals as goal

pub returns-in-0 : goal.returns-in-0
returns-in-0 c = λ form e. in_place-0 form (sym e ∙ c.in-0.is)

pub returns-in-1 : goal.returns-in-1
returns-in-1 c = λ form e. in_place-1 form (sym e ∙ c.in-1.is)

pub returns-in-2 : goal.returns-in-2
returns-in-2 c = λ form e. in_place-2 form (sym e ∙ c.in-2.is)

pub returns-in_default : goal.returns-in_default
returns-in_default c = λ form e. in_place-3 form (omega (arith, e))
