use Rattle.std.proofs.Common.{◌≡◌}
use Rattle.word_hazards.specs.Views.{nobody}
use Rattle.word_owners.proofs.owners.Owners.settled.Given as goal

abbrev pub invariant-loop-hazard : goal.invariant-loop-hazard
invariant-loop-hazard l = (l.seat.book ≡ l.self) × (l.seat.view ≡ nobody)
