use Rattle.std.proofs.Common.{◌≡◌, true}
use Rattle.live_nodes.specs.Views.{ask}
use Rattle.live_growth.specs.Calls.{IsReady}
use Rattle.live_growth.proofs.map.Congee.get.Given as goal

abbrev pub ghosts-get_once : goal.ghosts-get_once
ghosts-get_once a = record { ask = ask a.seat.now.id a.key 0 0; reads = true }

abbrev pub invariant-loop : goal.invariant-loop
invariant-loop l = record {
  book : l.guard-inside.seat.book ≡ l.fn.guard.book;
  id : l.guard-inside.seat.id ≡ l.fn.guard.caller;
  seen : l.guard-inside.seat.view.client.seen ≡ l.fn.guard.seen;
  ready : IsReady l.guard-inside.seat.view l.guard-inside.room;
}
