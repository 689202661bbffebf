use Rattle.std.proofs.Common.{◌-◌, ◌≡◌, ℕ, ◌<◌, ◌≤◌}
use Rattle.node_base.specs.inner.Marked.{mark_at}
use Rattle.node_base.proofs.mask.next_marked.Given as goal

abbrev pub invariant-loop-at : goal.invariant-loop-at
invariant-loop-at l = (l.from ≤ l.at) × ((i : ℕ) → l.from ≤ i → i < l.at → mark_at l.words i ≡ 0)

abbrev pub decreases-loop-at : goal.decreases-loop-at
decreases-loop-at l = 256 - l.at
