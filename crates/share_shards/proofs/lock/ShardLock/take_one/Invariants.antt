-- The limit is the lock's.
use Rattle.share_shards.proofs.lock.ShardLock.take_one.Given as goal

abbrev pub ghosts-try_one : goal.ghosts-try_one
ghosts-try_one g a = record { limit = a.self.now.limit }
