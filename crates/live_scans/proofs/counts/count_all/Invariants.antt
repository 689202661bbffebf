use Rattle.std.proofs.Common.{◌≡◌, ◌-◌, ◌%◌, ◌<◌, ◌≤◌, ◌^◌, ℕ, true, length, IfSome}
use Rattle.spec_map.specs.Map.{Pairs}
use Rattle.live_scans.specs.inner.Moments.{SeesMore}
use Rattle.live_reads.specs.Paths.{Keeps}
use Rattle.live_scans.specs.Scans.{HasRead}
use Rattle.live_scans.specs.inner.Stops.{IsTrail}
use Rattle.live_scans.proofs.counts.count_all.Given as goal

abbrev pub invariant-loop-stepped : goal.invariant-loop-stepped
invariant-loop-stepped l = record {
  book : l.seat.book ≡ l.fn.seat.book;
  id : l.seat.id ≡ l.fn.seat.id;
  keeps : Keeps l.fn.seat.view l.seat.view;
  seen : SeesMore l.seat.view.client.seen l.fn.seat.id l.fn.seat.view.client.seen;
  within : l.from < 2 ^ 64;
  seam : l.from % 256 ≡ 0;
  few : l.count ≤ l.from;
  pairs : Pairs ℕ;
  read : HasRead true l.fn.seat.view.client.seen l.seat.view.client.seen 0 l.from pairs;
  count_is : l.count ≡ length pairs;
  trail : IfSome l.at (IsTrail l.seat.view l.seat.book);
}

abbrev pub decreases-loop-stepped : goal.decreases-loop-stepped
decreases-loop-stepped l = 2 ^ 64 - l.from
