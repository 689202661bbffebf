use Rattle.std.proofs.Common.{◌≡◌, length}
use Rattle.word_owners.proofs.owners.Owners.push_all.Given as goal

abbrev pub invariant-loop-number : goal.invariant-loop-number
invariant-loop-number l = (l.seat.book ≡ l.self) × (l.seat.view ≡ l.fn.seat.view)

abbrev pub decreases-loop-number : goal.decreases-loop-number
decreases-loop-number l = length l.row.items
