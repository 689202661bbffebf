use Rattle.std.proofs.Common.{◌≡◌}
use Rattle.live_reads.proofs.path.root.Given as goal

abbrev pub ghosts-root_by : goal.ghosts-root_by
ghosts-root_by a = record { sees = λ old new. new ≡ old }
