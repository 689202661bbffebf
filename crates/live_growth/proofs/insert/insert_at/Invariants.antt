use Rattle.std.proofs.Common.{false}
use Rattle.live_nodes.specs.Views.{ask}
use Rattle.live_growth.proofs.insert.insert_at.Given as goal

abbrev pub ghosts-insert_here : goal.ghosts-insert_here
ghosts-insert_here a = record { ask = ask a.seat.now.id a.key a.value 1; reads = false }
