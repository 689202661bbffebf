use Rattle.std.proofs.Common.{false}
use Rattle.live_nodes.specs.Views.{ask}
use Rattle.live_copies.proofs.copy.take_all.Given as goal

abbrev pub ghosts-whole : goal.ghosts-whole
ghosts-whole a = record { ask = ask a.seat.now.id 0 0 0; reads = false }
