use Rattle.live_owners.proofs.Steps.{retired_shown}
use Rattle.live_owners.proofs.map.LiveOwners.retire.Goals as goal

pub returns-clause-previous : goal.returns-clause-previous
returns-clause-previous c =
    let v = c.lend-owner.new.handle.owners in
    let w = c.retire_ticket.new.handle.owners in
    let has = c.retire_ticket.ensures.retired c.if-not-retire_ticket.false in
    retired_shown v w c.args.ticket c.lend-owner.result c.lend-owner.ensures.lent c.retire_ticket.ensures.map.2 c.retire_ticket.ensures.lent has
