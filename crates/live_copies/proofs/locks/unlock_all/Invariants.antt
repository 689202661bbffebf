use Rattle.std.proofs.Common.{◌≡◌, vec_len}
use Rattle.live_growth.specs.Holds.{Alike}
use Rattle.live_copies.specs.inner.Locks.{HasLocks}
use Rattle.live_copies.proofs.locks.unlock_all.Given as goal

abbrev pub invariant-loop-words : goal.invariant-loop-words
invariant-loop-words l = record {
  book : l.seat.book ≡ l.fn.seat.book;
  id : l.seat.id ≡ l.fn.seat.id;
  alike : Alike l.fn.seat.view l.seat.view;
  seen : l.seat.view.client.seen ≡ l.fn.seat.view.client.seen;
  locks : HasLocks l.seat.view l.seat.book l.locks.items;
}

abbrev pub decreases-loop-words : goal.decreases-loop-words
decreases-loop-words l = vec_len l.locks
