-- The guard is one of this map.
use Rattle.std.proofs.Common.{◌≡◌}
use Rattle.share_maps.proofs.tests.charges.mixed.Given as goal

abbrev pub invariant-loop-i : goal.invariant-loop-i
invariant-loop-i g l = l.guard.table ≡ l.map

abbrev pub invariant-loop-choice : goal.invariant-loop-choice
invariant-loop-choice g l = l.guard.table ≡ l.map
