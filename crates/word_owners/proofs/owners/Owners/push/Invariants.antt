use Rattle.std.proofs.Common.{◌≡◌}
use Rattle.word_owners.proofs.owners.Owners.push.Given as goal

abbrev pub invariant-loop : goal.invariant-loop
invariant-loop l = (l.seat.book ≡ l.self) × (l.seat.view ≡ l.fn.seat.view)
