use Rattle.std.proofs.Common.{◌≡◌, ◌<◌, take, length}
use Rattle.live_layout.specs.Order.{IsFrom}
use Rattle.live_layout.specs.Page.{pairs_of}
use Rattle.live_reads.specs.Paths.{IsOpen, Keeps}
use Rattle.live_scans.specs.inner.Directions.{BeginsLeaf}
use Rattle.live_scans.specs.inner.Moments.{SeesMore}
use Rattle.live_scans.specs.inner.Stops.{IsTrail}
use Rattle.live_scans.proofs.Passes.{HasPassedTo}
use Rattle.live_scans.proofs.page.step_from.Given as goal

abbrev pub invariant-loop-last : goal.invariant-loop-last
invariant-loop-last g l = record {
  book : l.seat.book ≡ l.fn.seat.book;
  id : l.seat.id ≡ l.fn.seat.id;
  keeps : Keeps l.fn.seat.view l.seat.view;
  seen : SeesMore l.seat.view.client.seen l.fn.seat.id l.fn.seat.view.client.seen;
  trail : IsTrail l.seat.view l.seat.book l.at;
  opened : IsOpen l.seat.view l.seat.book l.here.words.now l.here.taken l.at.low.at.name l.at.low.at.key l.at.low.at.height;
  low : IsFrom l.request.bound.up l.fn.trail.low.at.key l.at.low.at.key;
  within : IsFrom l.request.bound.up l.at.low.at.key l.request.bound.limit;
  start : l.request.start < length l.buffer;
  seam : BeginsLeaf l.request.bound.up l.fn.trail.low.at.key l.at.low.at.key;
  passed : HasPassedTo l.request.bound.up l.fn.seat.view l.seat.view l.fn.trail.low.at.key l.at.low.at.key;
  before : take l.request.start (pairs_of g.P.RangeEntry.pair l.buffer) ≡ take l.request.start (pairs_of g.P.RangeEntry.pair l.fn.buffer);
}

abbrev pub decreases-loop-last : goal.decreases-loop-last
decreases-loop-last g l = l.at.low.at.height
