use Rattle.std.proofs.Common.{ℕ, ◌<◌, ◌≤◌, slice_index}
use Rattle.node_base.proofs.row.last_placed.Given as goal

abbrev pub invariant-loop-at : goal.invariant-loop-at
invariant-loop-at l = (l.at ≤ l.to) × ((b : ℕ) → l.at ≤ b → b < l.to → l.count ≤ slice_index l.index b)

abbrev pub decreases-loop-at : goal.decreases-loop-at
decreases-loop-at l = l.at
