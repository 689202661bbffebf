use Rattle.std.proofs.Common.{◌≡◌, ℕ, ◌+◌, ◌<◌, ◌≤◌, slice_index}
use Rattle.node_base.proofs.sorted.insert_byte.Given as goal

abbrev pub invariant-loop-j : goal.invariant-loop-j
invariant-loop-j l =
    record {
      low : l.at ≤ l.j;
      high : l.j ≤ l.count;
      same : (k : ℕ) → k ≤ l.j → slice_index l.keys k ≡ slice_index l.initial.keys k;
      moved : (k : ℕ) → l.j ≤ k → k < l.count → slice_index l.keys (k + 1) ≡ slice_index l.initial.keys k;
    }

abbrev pub decreases-loop-j : goal.decreases-loop-j
decreases-loop-j l = l.j
