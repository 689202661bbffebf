use Rattle.std.proofs.Common.{◌≡◌}
use Rattle.live_growth.specs.Calls.{IsReady}
use Rattle.live_updates.specs.inner.Lookups.{swap_of}
use Rattle.live_updates.proofs.calls.compare_exchange.Given as goal

abbrev pub invariant-loop : goal.invariant-loop
invariant-loop l = record {
  book : l.guard-inside.seat.book ≡ l.fn.guard.book;
  id : l.guard-inside.seat.id ≡ l.fn.guard.caller;
  seen : l.guard-inside.seat.view.client.seen ≡ l.fn.guard.seen;
  ready : IsReady l.guard-inside.seat.view l.guard-inside.room;
}

abbrev pub ghosts-exchange_once : goal.ghosts-exchange_once
ghosts-exchange_once a = record { swap = swap_of a.seat.now.id a.key a.old a.new }
