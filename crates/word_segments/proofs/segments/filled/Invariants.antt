use Rattle.std.proofs.Common.{◌≡◌, ◌+◌, ◌-◌, ◌≤◌, length}
use Rattle.word_segments.specs.Segments.{AreWords}
use Rattle.word_segments.proofs.segments.filled.Given as goal

abbrev pub invariant-loop-i : goal.invariant-loop-i
invariant-loop-i g l =
    (l.i ≤ l.fn.count) × (l.fn.count ≤ l.words.cap) × (length l.words.items ≡ l.i) × (l.pens.left + l.i ≡ l.fn.pens.left) × (l.fn.count ≤ l.fn.pens.left)
    × (l.pens.next ≡ l.fn.pens.next + l.i) × (l.pens.book ≡ l.fn.pens.book) × AreWords l.fn.pens.next l.fn.pens.book l.words.items

abbrev pub decreases-loop-i : goal.decreases-loop-i
decreases-loop-i g l = l.fn.count - l.i
