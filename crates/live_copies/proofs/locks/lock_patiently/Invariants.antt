use Rattle.std.proofs.Common.{◌≡◌}
use Rattle.live_growth.specs.Holds.{Alike}
use Rattle.live_copies.proofs.locks.lock_patiently.Given as goal

abbrev pub invariant-loop : goal.invariant-loop
invariant-loop l = record {
  book : l.seat.book ≡ l.fn.seat.book;
  id : l.seat.id ≡ l.fn.seat.id;
  alike : Alike l.fn.seat.view l.seat.view;
  client : l.seat.view.client ≡ l.fn.seat.view.client;
  holds : l.seat.view.holds ≡ l.fn.seat.view.holds;
}
