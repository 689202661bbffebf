use Rattle.live_scans.specs.Scans.{HasWaited}
use Rattle.live_pool.proofs.waits.listed_down.Given as goal

abbrev pub invariant-loop : goal.invariant-loop
invariant-loop g l = (goal.iterator-loop g).can_next l.iterator' × (goal.iterator-loop g).is_finite l.iterator' × HasWaited l.fn.guard l.guard
