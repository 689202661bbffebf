use Rattle.spec_olc.proofs.Refusing.{refused_makes}
use Rattle.spec_olc.proofs.laws.only_what_stores_is_refused.Goals as goal

pub returns : goal.returns
returns g c = λ old new id call env report granted here step. refused_makes g.P.Payload.always_shared g.P.HasMeaning.same_meaning old new id call env report granted here step
