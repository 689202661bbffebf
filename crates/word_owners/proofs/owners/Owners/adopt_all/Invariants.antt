use Rattle.std.proofs.Common.{◌≡◌, ◌-◌, length}
use Rattle.word_owners.specs.inner.Handles.{AreRetired, Looks}
use Rattle.word_owners.proofs.owners.Owners.adopt_all.Given as goal

abbrev pub invariant-loop-seat : goal.invariant-loop-seat
invariant-loop-seat l = (l.seat.book ≡ l.self) × (l.row.cap ≡ l.fn.row.cap) × Looks l.fn.seat.view l.seat.view × AreRetired l.seat.view l.row.items

abbrev pub decreases-loop-seat : goal.decreases-loop-seat
decreases-loop-seat l = 128 - length l.row.items
