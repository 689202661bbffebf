use Rattle.std.proofs.Common.{◌≡◌, ◌+◌, ◌-◌, ◌≤◌, length}
use Rattle.word_segments.specs.Segments.{AreWords}
use Rattle.word_owners.proofs.hazards.filled.Given as goal

abbrev pub invariant-loop-i : goal.invariant-loop-i
invariant-loop-i l =
    (l.i ≤ 64) × (64 ≤ l.hazards.cap) × (length l.hazards.items ≡ l.i) × (l.pens.left + l.i ≡ 65) × (l.pens.next ≡ l.i) × (l.pens.book ≡ l.fn.pens.book)
    × AreWords 0 l.fn.pens.book l.hazards.items

abbrev pub decreases-loop-i : goal.decreases-loop-i
decreases-loop-i l = 64 - l.i
