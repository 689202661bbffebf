use Rattle.std.proofs.Common.{arith}
use Rattle.live_layout.proofs.StandLaws.{few_forms}
use Rattle.live_layout.proofs.form.form_below.Goals as goal

pub returns : goal.returns
returns c = λ slot form e. c.form_at.ensures form (omega (arith, e, few_forms form))
