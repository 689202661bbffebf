use Rattle.live_updates.specs.inner.Losses.{part_taking}
use Rattle.live_updates.proofs.takings.take_pairs.Given as goal

abbrev pub ghosts-unlock_taken : goal.ghosts-unlock_taken
ghosts-unlock_taken a = record { taking = part_taking a.seat.now.id a.part a.pairs.now }
