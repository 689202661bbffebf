use Rattle.std.proofs.Common.{◌≡◌, ◌<◌, take, length, IfSome}
use Rattle.live_layout.specs.Order.{IsFrom}
use Rattle.live_layout.specs.Page.{pairs_of}
use Rattle.live_reads.specs.Paths.{Keeps}
use Rattle.live_reads.specs.Positions.{KnowsLast}
use Rattle.live_scans.specs.inner.Moments.{SeesMore}
use Rattle.live_scans.specs.inner.Stops.{IsTrail}
use Rattle.live_scans.specs.inner.Directions.{BeginsLeaf}
use Rattle.live_scans.proofs.Passes.{HasReadTo, left}
use Rattle.live_scans.proofs.page.page.Given as goal

abbrev pub invariant-loop-stepped : goal.invariant-loop-stepped
invariant-loop-stepped g l = record {
  book : l.seat.book ≡ l.fn.seat.book;
  id : l.seat.id ≡ l.fn.seat.id;
  keeps : Keeps l.fn.seat.view l.seat.view;
  seen : SeesMore l.seat.view.client.seen l.fn.seat.id l.fn.seat.view.client.seen;
  room : l.count < length l.buffer;
  order : IsFrom l.bound.up l.key l.from;
  within : IsFrom l.bound.up l.from l.bound.limit;
  seam : BeginsLeaf l.bound.up l.key l.from;
  trail : IfSome l.at (IsTrail l.seat.view l.seat.book);
  last : KnowsLast l.seat.view l.last;
  read : HasReadTo l.bound.up l.fn.seat.view.client.seen l.seat.view.client.seen l.key l.from (take l.count (pairs_of g.P.RangeEntry.pair l.buffer));
}

abbrev pub decreases-loop-stepped : goal.decreases-loop-stepped
decreases-loop-stepped g l = left l.bound.up l.bound.limit l.from
