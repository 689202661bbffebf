use Rattle.std.proofs.Common.{length}
use Rattle.share_shards.proofs.lock.ShardLock.+each.Given as goal

abbrev pub decreases-each : goal.decreases-each
decreases-each g l = length l.shards.now
