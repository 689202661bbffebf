-- No operation is made. The number is the one that was seated, if one was.
use Rattle.std.specs.Prelude.{[]}
use Rattle.share_holds.specs.inner.Events.{seated_in}
use Rattle.share_holds.proofs.holds.number.Given as goal

abbrev pub ghosts-release : goal.ghosts-release
ghosts-release g a = record { operations = []; number = seated_in a.first.now }
