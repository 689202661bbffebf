use Rattle.std.proofs.Common.{◌+◌, true}
use Rattle.live_pool.specs.Pops.{HasMissed}
use Rattle.live_pool.proofs.removals.taken_part.Given as goal

abbrev pub invariant-loop : goal.invariant-loop
invariant-loop g l = (goal.iterator-loop g).can_next l.iterator' × (goal.iterator-loop g).is_finite l.iterator' × HasMissed true l.low (l.last + 1) l.fn.guard l.guard
