use Rattle.std.proofs.Common.{rules, ◌≢◌, arith}
use Rattle.live_growth.proofs.Ready.{ready_kept, ready_spare}
use Rattle.live_growth.proofs.FreeNodes.{free_nodes_more}
use Rattle.live_pool.proofs.pool.Pool.leave_at.Goals as goal

pub add_to-requires-clause-met : goal.add_to-requires-clause-met
add_to-requires-clause-met c =
    let some : c.guard.inside.room.spare.more ≢ 0 = search rules in
    c.guard.invariant.spare.2 (omega (arith, some))

pub invariant_of-guard : goal.invariant_of-guard
invariant_of-guard c =
    let v = c.guard.inside.seat.view in
    let w = c.add_to.new.seat.view in
    let m = c.guard.inside.room in
    let kept = ready_kept v w m c.guard.invariant c.add_to.ensures.seat.2 in
    ready_spare w m (record m.spare { more = 0 }) kept (free_nodes_more w m.spare 0 kept.spare (λ some. absurd (omega (arith, some))))

pub invariant_of-guard-else-add_to : goal.invariant_of-guard-else-add_to
invariant_of-guard-else-add_to c = ready_kept c.guard.inside.seat.view c.add_to.new.seat.view c.guard.inside.room c.guard.invariant c.add_to.ensures.seat.2
