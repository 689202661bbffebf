use Rattle.std.proofs.Common.{length}
use Rattle.share_shards.proofs.lock.ShardLock.+release_all.Given as goal

abbrev pub decreases-release_all : goal.decreases-release_all
decreases-release_all g l = length l.shards.now
