use Rattle.std.proofs.Common.{ℕ, ◌≡◌, ◌-◌, ◌≤◌, ◌++◌}
use Rattle.spec_map.specs.Map.{Pairs}
use Rattle.live_copies.specs.inner.Noted.{HasNoted}
use Rattle.live_copies.specs.inner.Locks.{HasLocks, Grows, place_above}
use Rattle.live_copies.proofs.walk.+take.Given as goal

abbrev pub invariant-loop-from : goal.invariant-loop-from
invariant-loop-from l = record {
  book : l.seat.book ≡ l.fn.seat.book;
  id : l.seat.id ≡ l.fn.seat.id;
  grows : Grows l.fn.seat.view l.seat.view;
  locks : HasLocks l.seat.view l.seat.book l.work.locks.items;
  few : l.from ≤ 256;
  copied : (pairs : Pairs ℕ) × (l.work.pairs.items ≡ l.fn.work.pairs.items ++ pairs) × HasNoted l.seat.view.client.own (place_above l.key l.height) l.from l.names pairs;
}

abbrev pub decreases-loop-from : goal.decreases-loop-from
decreases-loop-from l = 256 - l.from

abbrev pub decreases-take : goal.decreases-take
decreases-take l = l.height
