use Rattle.std.proofs.Common.{◌≡◌, take, IfSome}
use Rattle.live_scans.specs.inner.Moments.{SeesMore}
use Rattle.live_reads.specs.Paths.{Keeps}
use Rattle.live_layout.specs.Page.{pairs_of}
use Rattle.live_scans.specs.inner.Stops.{IsTrail}
use Rattle.live_scans.proofs.page.read_on.Given as goal

abbrev pub invariant-loop : goal.invariant-loop
invariant-loop g l = record {
  book : l.seat.book ≡ l.fn.seat.book;
  id : l.seat.id ≡ l.fn.seat.id;
  keeps : Keeps l.fn.seat.view l.seat.view;
  seen : SeesMore l.seat.view.client.seen l.fn.seat.id l.fn.seat.view.client.seen;
  trail : IfSome l.at (IsTrail l.seat.view l.seat.book);
  before : take l.request.start (pairs_of g.P.RangeEntry.pair l.buffer) ≡ take l.request.start (pairs_of g.P.RangeEntry.pair l.fn.buffer);
}
