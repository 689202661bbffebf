use Rattle.std.proofs.Common.{◌≡◌}
use Rattle.live_growth.specs.Calls.{IsReady}
use Rattle.live_updates.proofs.computes.present.get_or_insert.Given as goal

abbrev pub invariant-loop : goal.invariant-loop
invariant-loop g l = record {
  book : l.guard-inside.seat.book ≡ l.fn.guard.book;
  id : l.guard-inside.seat.id ≡ l.fn.guard.caller;
  seen : l.guard-inside.seat.view.client.seen ≡ l.fn.guard.seen;
  ready : IsReady l.guard-inside.seat.view l.guard-inside.room;
}
