use Rattle.std.proofs.Common.{◌≡◌}
use Rattle.live_reads.specs.Paths.{Names}
use Rattle.live_growth.specs.Calls.{known_of, IsReady}
use Rattle.live_scans.specs.Scans.{HasBegun}
use Rattle.live_copies.proofs.copy.copy.Given as goal

abbrev pub invariant-loop : goal.invariant-loop
invariant-loop l = record {
  book : l.guard-inside.seat.book ≡ l.fn.guard.book;
  begun : HasBegun l.fn.guard (known_of l.guard-inside.seat.book l.guard-inside.seat.id l.guard-inside.seat.view);
  ready : IsReady l.guard-inside.seat.view l.guard-inside.room;
  root : Names l.guard-inside.seat.view l.position.name 0 8;
}
