use Rattle.std.proofs.Common.{◌≡◌, ◌⊎◌, ◌≤◌, ◌-◌, length}
use Rattle.word_owners.specs.inner.Handles.{AreFound, Looks}
use Rattle.word_owners.proofs.owners.Owners.scan.Given as goal

abbrev pub invariant-loop-hazard : goal.invariant-loop-hazard
invariant-loop-hazard l =
    (l.hazard ≤ 64) × (l.seat.book ≡ l.self) × (l.found.cap ≡ l.fn.found.cap) × (length l.found.items ≤ l.hazard) × Looks l.fn.seat.view l.seat.view
    × (l.seat.view.retired ≡ l.fn.seat.view.retired) × ((l.hazard ≡ 0) ⊎ ((l.hazard ≡ l.seat.view.scanned) × AreFound l.seat.view l.found.items))

abbrev pub decreases-loop-hazard : goal.decreases-loop-hazard
decreases-loop-hazard l = 64 - l.hazard
