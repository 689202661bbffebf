-- The guard is one of this map.
use Rattle.std.proofs.Common.{◌≡◌}
use Rattle.share_maps.proofs.tests.owners.pass_on.Given as goal

abbrev pub invariant-loop-time : goal.invariant-loop-time
invariant-loop-time g l = l.guard.table ≡ l.map
