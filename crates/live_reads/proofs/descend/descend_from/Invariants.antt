use Rattle.std.proofs.Common.{◌≡◌, false}
use Rattle.live_nodes.specs.Views.{ask}
use Rattle.live_reads.specs.Paths.{IsOpen, Keeps}
use Rattle.live_reads.specs.Positions.{KnowsPosition}
use Rattle.live_reads.proofs.descend.descend_from.Given as goal

abbrev pub ghosts-step : goal.ghosts-step
ghosts-step a = record { ask = ask a.seat.now.id a.key 0 0; reads = false }

abbrev pub invariant-loop-position : goal.invariant-loop-position
invariant-loop-position l = record {
  book : l.seat.book ≡ l.fn.seat.book;
  id : l.seat.id ≡ l.fn.seat.id;
  keeps : Keeps l.fn.seat.view l.seat.view;
  seen : l.seat.view.client.seen ≡ l.fn.seat.view.client.seen;
  position : KnowsPosition l.seat.view l.key l.position;
  node : IsOpen l.seat.view l.seat.book l.here.words.now l.here.taken l.position.name l.key l.position.height;
}

abbrev pub decreases-loop-position : goal.decreases-loop-position
decreases-loop-position l = l.position.height
