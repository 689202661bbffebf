use Rattle.std.proofs.Common.{false}
use Rattle.live_nodes.specs.Views.{ask}
use Rattle.live_scans.proofs.page.step_last.Given as goal

abbrev pub ghosts-leaf_page : goal.ghosts-leaf_page
ghosts-leaf_page g a = record { ask = ask a.seat.now.id 0 0 0; reads = false }
