use Rattle.std.proofs.Common.{false}
use Rattle.live_nodes.specs.Views.{ask}
use Rattle.live_copies.proofs.children.name_under.Given as goal

abbrev pub ghosts-look : goal.ghosts-look
ghosts-look a = record { ask = ask a.seat.now.id a.key 0 0; reads = false }
