use Rattle.std.proofs.Common.{◌≡◌, length}
use Rattle.word_owners.specs.inner.Handles.{AreRetired, HasScanned, Looks}
use Rattle.word_owners.proofs.owners.Owners.reclaim_by.Given as goal

abbrev pub invariant-loop-ticket : goal.invariant-loop-ticket
invariant-loop-ticket l =
    (l.seat.book ≡ l.self) × (l.row.cap ≡ l.fn.row.cap) × Looks l.fn.seat.view l.seat.view × AreRetired l.seat.view l.row.items × HasScanned l.seat.view l.found

abbrev pub decreases-loop-ticket : goal.decreases-loop-ticket
decreases-loop-ticket l = length l.row.items
