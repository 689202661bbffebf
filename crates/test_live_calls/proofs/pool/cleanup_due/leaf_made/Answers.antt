use Rattle.live_growth.proofs.Ready.{ready_kept}
use Rattle.test_live_calls.proofs.pool.cleanup_due.leaf_made.Goals as goal

pub invariant_of-guard : goal.invariant_of-guard
invariant_of-guard c = ready_kept c.guard.inside.seat.view c.descend.new.seat.view c.guard.inside.room c.guard.invariant c.descend.ensures.keeps

pub invariant_of-guard-then-end-lt2 : goal.invariant_of-guard-then-end-lt2
invariant_of-guard-then-end-lt2 c = ready_kept c.guard.inside.seat.view c.descend.new.seat.view c.guard.inside.room c.guard.invariant c.descend.ensures.keeps

pub extend-requires-clause-ready : goal.extend-requires-clause-ready
extend-requires-clause-ready c = ready_kept c.guard.inside.seat.view c.descend.new.seat.view c.guard.inside.room c.guard.invariant c.descend.ensures.keeps
