use Rattle.std.proofs.Common.{nat_eq, subst}
use Rattle.share_rule.specs.History.{IsHistory}
use Rattle.live_payloads.proofs.Moving.{all_issued}
use Rattle.live_payloads.proofs.payload_congee.moves.moved_in.Goals as goal

pub returns-clause-moved : goal.returns-clause-moved
returns-clause-moved g c =
    let ts = c.in_ok-tickets.tickets.items in
    let seen = c.in_ok-pool.guard.seen in
    (ts, subst (IsHistory nat_eq seen) c.deref.ensures.value c.in_ok-pool.ensures.1, all_issued g.P.Payload.alike c.issued.new.seen.log c.args.owned.now.pairs ts c.in_ok-tickets.ensures.issued)
