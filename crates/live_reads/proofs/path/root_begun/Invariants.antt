use Rattle.live_reads.specs.Roots.{Begins}
use Rattle.live_reads.proofs.path.root_begun.Given as goal

abbrev pub ghosts-root_by : goal.ghosts-root_by
ghosts-root_by a = record { sees = Begins a.seat.now.id }
