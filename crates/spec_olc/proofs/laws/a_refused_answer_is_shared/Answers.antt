use Rattle.spec_olc.proofs.Settling.{refused_answer}
use Rattle.spec_olc.proofs.laws.a_refused_answer_is_shared.Goals as goal

pub returns : goal.returns
returns g c = λ old new id call env report out a e. refused_answer _ _ old new id call env report out a e
