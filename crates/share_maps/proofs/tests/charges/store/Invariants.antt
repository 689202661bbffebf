-- The guard is one of this map.
use Rattle.std.proofs.Common.{◌≡◌}
use Rattle.share_maps.proofs.tests.charges.store.Given as goal

abbrev pub invariant-loop-key : goal.invariant-loop-key
invariant-loop-key g l = l.guard.table ≡ l.map
