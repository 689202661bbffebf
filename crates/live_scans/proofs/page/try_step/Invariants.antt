use Rattle.std.proofs.Common.{false}
use Rattle.live_nodes.specs.Views.{ask}
use Rattle.live_scans.proofs.page.try_step.Given as goal

abbrev pub ghosts-step_from : goal.ghosts-step_from
ghosts-step_from g a = record { ask = ask a.seat.now.id 0 0 0; reads = false }
