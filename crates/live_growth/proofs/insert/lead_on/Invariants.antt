use Rattle.std.proofs.Common.{false}
use Rattle.live_nodes.specs.Views.{ask}
use Rattle.live_growth.proofs.insert.lead_on.Given as goal

abbrev pub ghosts-link : goal.ghosts-link
ghosts-link a = record { ask = ask a.seat.now.id a.key 0 1; reads = false }
