use Rattle.std.proofs.Common.{false}
use Rattle.live_nodes.specs.Views.{ask}
use Rattle.live_growth.proofs.insert.replace.Given as goal

abbrev pub ghosts-grow_node : goal.ghosts-grow_node
ghosts-grow_node a = record { ask = ask a.seat.now.id a.key 0 a.position.height; reads = false }
