use Rattle.spec_olc.proofs.Cleaning.{due_node}
use Rattle.spec_olc.proofs.laws.a_cleanup_is_for_a_due_node.Goals as goal

pub returns : goal.returns
returns g c = λ old new id call next env report out c1 w there cleans. due_node g.P.Payload.always_shared g.P.HasMeaning.same_meaning old new id call next env report out c1 w there cleans
