use Rattle.std.proofs.Common.{◌^◌, true, Some, sym, subst, rules}
use Rattle.live_nodes.specs.Known.{Known}
use Rattle.live_pool.specs.Pops.{HasPopped}
use Rattle.live_owners.proofs.map.LiveOwners.remove_first.Goals as goal

pub returns-in-Some-clause-removed : goal.returns-in-Some-clause-removed
returns-in-Some-clause-removed c = λ is.
    let k = c.args.handle.now.tickets in
    let pair = c.in-Some.pair in
    let popped : HasPopped true 0 (2 ^ 64) k (Some pair) c.pop.new.guard = search rules in
    (pair, subst (λ (n : Known). HasPopped true 0 (2 ^ 64) k (Some pair) n) (sym c.retire_ticket.ensures.tickets) popped)
