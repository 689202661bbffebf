use Rattle.live_growth.proofs.Ready.{ready_cleanup_due}
use Rattle.live_pool.proofs.upkeep.owe.Goals as goal

pub invariant_of-guard : goal.invariant_of-guard
invariant_of-guard c = ready_cleanup_due c.guard.inside.seat.view c.guard.inside.room c.args.key c.guard.invariant
