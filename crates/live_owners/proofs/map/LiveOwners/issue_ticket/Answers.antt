use Rattle.std.proofs.Common.{ap}
use Rattle.live_owners.specs.Owners.{OwnersKnown}
use Rattle.live_owners.proofs.Steps.{issued_new}
use Rattle.live_owners.proofs.map.LiveOwners.issue_ticket.Goals as goal

pub returns-clause-first : goal.returns-clause-first
returns-clause-first c =
    issued_new c.args.handle.now.owners c.handle.inside.lender.view c.insert.result (ap (λ (k : OwnersKnown). k.owners) c.handle.view_is) c.insert.ensures.first
