-- The limit is the lock's.
use Rattle.share_shards.proofs.lock.ShardLock.append.Given as goal

abbrev pub ghosts-append_at : goal.ghosts-append_at
ghosts-append_at g a = record { limit = a.self.now.limit }
