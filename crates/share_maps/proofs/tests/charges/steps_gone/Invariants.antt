-- The guard is one of this map.
use Rattle.std.proofs.Common.{◌≡◌}
use Rattle.share_maps.proofs.tests.charges.steps_gone.Given as goal

abbrev pub invariant-loop-step : goal.invariant-loop-step
invariant-loop-step g l = l.guard.table ≡ l.map
