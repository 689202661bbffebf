use Rattle.std.proofs.Common.{◌≡◌}
use Rattle.live_growth.specs.Calls.{IsReady}
use Rattle.live_updates.proofs.tidy.tidy.Given as goal

abbrev pub invariant-loop : goal.invariant-loop
invariant-loop l = record {
  book : l.seat.book ≡ l.fn.seat.book;
  id : l.seat.id ≡ l.fn.seat.id;
  ready : IsReady l.seat.view l.room;
  seen : l.seat.view.client.seen ≡ l.fn.seat.view.client.seen;
}
