use Rattle.std.proofs.Common.{false}
use Rattle.live_nodes.specs.Views.{ask}
use Rattle.live_updates.proofs.shrink_node.shrink_end.Given as goal

abbrev pub ghosts-shrink_node : goal.ghosts-shrink_node
ghosts-shrink_node a = record { ask = ask a.seat.now.id a.key 0 a.position.height; reads = false }
