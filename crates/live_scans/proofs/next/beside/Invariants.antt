use Rattle.std.proofs.Common.{Some, false}
use Rattle.live_nodes.specs.Views.{ask}
use Rattle.live_reads.specs.Mismatches.{first_number}
use Rattle.live_scans.proofs.next.beside.Given as goal

abbrev pub ghosts-meet_under : goal.ghosts-meet_under
ghosts-meet_under g a = record { ask = ask a.seat.now.id a.to 0 0; reads = false }

abbrev pub ghosts-watch_next : goal.ghosts-watch_next
ghosts-watch_next g a = record { number = first_number a.seat.now.view.reads; word = Some a.here.taken }
