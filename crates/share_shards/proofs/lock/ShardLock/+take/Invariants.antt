use Rattle.std.proofs.Common.{length}
use Rattle.share_shards.proofs.lock.ShardLock.+take.Given as goal

abbrev pub decreases-take : goal.decreases-take
decreases-take g l = length l.shards.now
