use Rattle.std.proofs.Common.{false}
use Rattle.live_growth.proofs.Ready.{ready_changed}
use Rattle.live_pool.proofs.upkeep.is_in_order.Goals as goal

pub invariant_of-guard : goal.invariant_of-guard
invariant_of-guard c = ready_changed c.guard.inside.seat.view c.guard.inside.room false c.none-guard-inside.result c.guard.invariant
