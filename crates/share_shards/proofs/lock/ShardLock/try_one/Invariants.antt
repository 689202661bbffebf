-- The seat is as it was until the lock is won.
use Rattle.std.proofs.Common.{◌≡◌}
use Rattle.share_shards.proofs.lock.ShardLock.try_one.Given as goal

abbrev pub invariant-loop : goal.invariant-loop
invariant-loop g l = (l.seat.table_id ≡ l.initial.seat.table_id) × (l.seat.me ≡ l.initial.seat.me)
