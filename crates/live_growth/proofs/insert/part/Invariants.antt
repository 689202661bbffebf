use Rattle.std.proofs.Common.{false}
use Rattle.live_nodes.specs.Views.{ask}
use Rattle.live_growth.proofs.insert.part.Given as goal

abbrev pub ghosts-split : goal.ghosts-split
ghosts-split a = record { ask = ask a.seat.now.id a.key 0 a.mismatch.at; reads = false }
