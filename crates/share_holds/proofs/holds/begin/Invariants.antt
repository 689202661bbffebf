-- The operation is that of the call, if its first event decided it.
use Rattle.share_holds.specs.inner.Events.{operations_opened}
use Rattle.share_rule.specs.inner.Steps.{at_of, number_of}
use Rattle.share_holds.proofs.holds.begin.Given as goal

abbrev pub ghosts-release : goal.ghosts-release
ghosts-release g a = record { operations = operations_opened g.M.Lent.meaning a.first.now a.second.now; number = number_of (at_of a.seat.now.me.0) }
