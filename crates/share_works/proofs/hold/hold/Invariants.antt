-- The operations are those that the work made, and the seat keeps its number.
use Rattle.share_rule.specs.inner.Steps.{at_of, found_of, number_of, operations_of_found}
use Rattle.share_works.proofs.hold.hold.Given as goal

abbrev pub ghosts-release : goal.ghosts-release
ghosts-release g a = record { operations = operations_of_found (g.W.Work.made a.first.now) (found_of a.seat.now.me.0); number = number_of (at_of a.seat.now.me.0) }
