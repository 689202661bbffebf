-- No operation is made.
use Rattle.share_holds.specs.inner.Events.{operations_at}
use Rattle.share_rule.specs.inner.Steps.{at_of, number_of}
use Rattle.spec_olc.specs.Meaning.{outcome_of}
use Rattle.share_holds.proofs.holds.last_event.Given as goal

abbrev pub ghosts-release : goal.ghosts-release
ghosts-release g a = record { operations = operations_at (at_of a.seat.now.me.0) (outcome_of g.M.Lent.meaning a.second.now.outcome); number = number_of (at_of a.seat.now.me.0) }
