use Rattle.std.proofs.Common.{Some, Ok, rules}
use Rattle.live_nodes.specs.Known.{MadeCall}
use Rattle.live_updates.specs.Entries.{swapped}
use Rattle.live_owners.specs.Owners.{IssuedMore, IsNew, RetiresOnly}
use Rattle.live_owners.proofs.Steps.{only_on}
use Rattle.live_owners.proofs.map.LiveOwners.compare_exchange.Goals as goal

pub returns-in-Ok-Ok-clause-made : goal.returns-in-Ok-Ok-clause-made
returns-in-Ok-Ok-clause-made c =
    let k = c.args.handle.now in
    let n = c.retire.new.handle in
    let t = c.in-Ok.new in
    let new : IsNew k.owners t = search rules in
    let more : IssuedMore c.issue.new.handle.owners n.owners = search rules in
    let made : MadeCall k.tickets (swapped k.tickets.caller c.args.key c.args.ticket (Some t) (Ok (Some t))) n.tickets = search rules in
    let only : RetiresOnly k.owners n.owners (Some c.args.ticket) = search (rules, only_on) in
    (t, new, more.known t c.args.owner c.in-Ok.ensures.issued, made, c.retire.ensures.ticket, c.retire.ensures.previous, only)
