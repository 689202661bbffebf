use Rattle.std.proofs.Common.{false}
use Rattle.live_nodes.specs.Views.{ask}
use Rattle.live_growth.proofs.map.Congee.with_guard.Given as goal

abbrev pub ghosts-make_root : goal.ghosts-make_root
ghosts-make_root a = record { ask = ask a.seat.now.id 0 0 8; reads = false }
