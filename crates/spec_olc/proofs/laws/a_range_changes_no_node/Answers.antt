use Rattle.spec_olc.proofs.Untouched.{range_leaves}
use Rattle.spec_olc.proofs.laws.a_range_changes_no_node.Goals as goal

pub returns-clause-stays : goal.returns-clause-stays
returns-clause-stays g c = λ old new id call env report out range none here step.
    (range_leaves g.P.Payload.always_shared g.P.HasMeaning.same_meaning old new id call env report out range none here step).0

pub returns-clause-holds : goal.returns-clause-holds
returns-clause-holds g c = λ old new id call next env report out range none here step going there.
    (range_leaves g.P.Payload.always_shared g.P.HasMeaning.same_meaning old new id call env report out range none here step).1 going next there
