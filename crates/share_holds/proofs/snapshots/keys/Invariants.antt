-- No operation is made, and the number stays.
use Rattle.std.specs.Prelude.{[]}
use Rattle.share_rule.specs.inner.Steps.{at_of, number_of}
use Rattle.share_holds.proofs.snapshots.keys.Given as goal

abbrev pub ghosts-release : goal.ghosts-release
ghosts-release g a = record { operations = []; number = number_of (at_of a.seat.now.me.0) }
