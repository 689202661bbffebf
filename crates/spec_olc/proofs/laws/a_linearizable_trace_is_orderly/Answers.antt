use Rattle.std.proofs.Common.{[]}
use Rattle.spec_olc.specs.Linearizable.{none_pending}
use Rattle.spec_olc.proofs.LinearHistory.{history_on}
use Rattle.spec_olc.proofs.Ordering.{in_order}
use Rattle.spec_olc.proofs.laws.a_linearizable_trace_is_orderly.Goals as goal

pub returns-clause-history : goal.returns-clause-history
returns-clause-history c = λ events lines decided content l. history_on events lines decided none_pending [] content l

pub returns-clause-order : goal.returns-clause-order
returns-clause-order c = λ events lines decided content l id. in_order events lines decided content id l
