use Rattle.live_pool.proofs.Successions.{may_succeed}
use Rattle.live_pool.proofs.succession.hand_over.Goals as goal

pub meet-requires-clause-rule : goal.meet-requires-clause-rule
meet-requires-clause-rule g c =
    let a = c.args.from.now in
    let b = c.args.to.now in
    may_succeed g.L.NodeLaw.root g.L.NodeLaw.holds a.id b.id a.view b.view
