use Rattle.spec_olc.proofs.Settling.{decided_bare, refused_bare}
use Rattle.spec_olc.proofs.laws.a_settled_call_keeps_no_payload.Goals as goal

pub returns-clause-decided : goal.returns-clause-decided
returns-clause-decided g c = λ old new id next env report reply step there. decided_bare _ _ old new id step.call next env report there reply report.kind step.event

pub returns-clause-refused : goal.returns-clause-refused
returns-clause-refused g c = λ old new id next env report step there. refused_bare _ _ old new id step.call next env report there report.kind step.event
