use Rattle.std.proofs.Common.{◌≡◌, ◌+◌, ◌-◌, ◌≤◌, length, drop}
use Rattle.node_base.specs.inner.Sorted.{below}
use Rattle.node_base.proofs.sorted.place.Given as goal

abbrev pub invariant-loop-i : goal.invariant-loop-i
invariant-loop-i l = (below l.keys l.byte ≡ l.i + below (drop l.i l.keys) l.byte) × (l.i ≤ length l.keys) × (length l.keys ≡ l.count)

abbrev pub decreases-loop-i : goal.decreases-loop-i
decreases-loop-i l = length l.keys - l.i
