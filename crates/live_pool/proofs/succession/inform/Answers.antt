use Rattle.live_pool.proofs.Informed.{may_inform}
use Rattle.live_pool.proofs.succession.inform.Goals as goal

pub meet-requires-clause-rule : goal.meet-requires-clause-rule
meet-requires-clause-rule c =
    let a = c.args.a.now in
    let b = c.args.b.now in
    may_inform 1 a.id b.id a.view b.view
