use Rattle.std.proofs.Common.{◌≡◌, ℕ, ◌<◌, ◌≤◌}
use Rattle.node_base.specs.inner.Marked.{mark_at}
use Rattle.node_base.proofs.mask.last_marked.Given as goal

abbrev pub invariant-loop-at : goal.invariant-loop-at
invariant-loop-at l = (l.at ≤ l.to) × ((i : ℕ) → l.at ≤ i → i < l.to → mark_at l.words i ≡ 0)

abbrev pub decreases-loop-at : goal.decreases-loop-at
decreases-loop-at l = l.at
