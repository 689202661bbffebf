use Rattle.std.proofs.Common.{◌≡◌, ◌≤◌}
use Rattle.live_reads.specs.Paths.{Names, IsOpen, Keeps}
use Rattle.live_reads.proofs.get.get_once.Given as goal

abbrev pub invariant-loop-height : goal.invariant-loop-height
invariant-loop-height g l = record {
  book : l.seat.book ≡ l.fn.seat.book;
  id : l.seat.id ≡ l.fn.seat.id;
  keeps : Keeps l.fn.seat.view l.seat.view;
  seen : l.seat.view.client.seen ≡ l.fn.seat.view.client.seen;
  low : 1 ≤ l.height;
  high : l.height ≤ 8;
  root : Names l.seat.view l.top l.key 8;
  node : IsOpen l.seat.view l.seat.book l.here.words.now l.here.taken l.name l.key l.height;
}

abbrev pub decreases-loop-height : goal.decreases-loop-height
decreases-loop-height g l = l.height
