-- The guard is one of this map.
use Rattle.std.proofs.Common.{◌≡◌}
use Rattle.test_share_shards.proofs.tests.refused.filled.Given as goal

abbrev pub invariant-loop-key : goal.invariant-loop-key
invariant-loop-key l = l.guard.table ≡ l.map.table
