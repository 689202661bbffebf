use Rattle.std.proofs.Common.{◌≡◌}
use Rattle.live_growth.specs.Calls.{IsReady}
use Rattle.live_updates.specs.inner.Lookups.{lookup_of, absence}
use Rattle.live_updates.proofs.absent.found_none.Given as goal

abbrev pub ghosts-seek : goal.ghosts-seek
ghosts-seek a = record { lookup = lookup_of a.seat.now.id a.key (absence a.seat.now.id a.key) }

abbrev pub invariant-loop : goal.invariant-loop
invariant-loop l = record {
  book : l.guard-inside.seat.book ≡ l.fn.guard.book;
  id : l.guard-inside.seat.id ≡ l.fn.guard.caller;
  seen : l.guard-inside.seat.view.client.seen ≡ l.fn.guard.seen;
  ready : IsReady l.guard-inside.seat.view l.guard-inside.room;
}
