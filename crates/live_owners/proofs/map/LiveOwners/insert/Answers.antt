use Rattle.std.proofs.Common.{Some, rules}
use Rattle.live_nodes.specs.Known.{MadeCall}
use Rattle.live_nodes.specs.Views.{ask, inserted}
use Rattle.live_owners.specs.Owners.{IssuedMore, IsNew, RetiresOnly}
use Rattle.live_owners.proofs.Steps.{only_on}
use Rattle.live_owners.proofs.map.LiveOwners.insert.Goals as goal

pub returns-in-Ok-Some-clause-made : goal.returns-in-Ok-Some-clause-made
returns-in-Ok-Some-clause-made c =
    let k = c.args.handle.now in
    let n = c.retire.new.handle in
    let t = c.in-Ok.ticket in
    let new : IsNew k.owners t = search rules in
    let more : IssuedMore c.issue.new.handle.owners n.owners = search rules in
    let made : MadeCall k.tickets (inserted (ask k.tickets.caller c.args.key t 1) (Some c.retire.result.ticket)) n.tickets = search rules in
    let only : RetiresOnly k.owners n.owners (Some c.retire.result.ticket) = search (rules, only_on) in
    (t, new, more.known t c.args.owner c.in-Ok.ensures.issued, (made, c.retire.ensures.previous, only))
