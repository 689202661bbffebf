use Rattle.std.proofs.Common.{Some}
use Rattle.live_scans.specs.inner.Nexts.{second_number}
use Rattle.live_scans.proofs.beside.has_no_other.Given as goal

abbrev pub ghosts-watch_again : goal.ghosts-watch_again
ghosts-watch_again g a = record { number = second_number a.seat.now.view.reads; word = Some a.here.taken }
