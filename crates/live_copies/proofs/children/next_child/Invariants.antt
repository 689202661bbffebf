use Rattle.std.proofs.Common.{◌≡◌}
use Rattle.live_reads.specs.Paths.{Keeps}
use Rattle.live_copies.proofs.children.next_child.Given as goal

abbrev pub invariant-loop : goal.invariant-loop
invariant-loop l = record {
  book : l.seat.book ≡ l.fn.seat.book;
  id : l.seat.id ≡ l.fn.seat.id;
  keeps : Keeps l.fn.seat.view l.seat.view;
  seen : l.seat.view.client.seen ≡ l.fn.seat.view.client.seen;
}
