-- The guard is one of this map.
use Rattle.std.proofs.Common.{◌≡◌}
use Rattle.test_share_shards.proofs.tests.threads.falls.Given as goal

abbrev pub invariant-loop : goal.invariant-loop
invariant-loop g l = l.guard.table ≡ l.map.table
