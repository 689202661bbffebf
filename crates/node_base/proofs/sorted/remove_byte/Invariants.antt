use Rattle.std.proofs.Common.{◌≡◌, ℕ, ◌+◌, ◌-◌, ◌<◌, ◌≤◌, slice_index}
use Rattle.node_base.proofs.sorted.remove_byte.Given as goal

abbrev pub invariant-loop-j : goal.invariant-loop-j
invariant-loop-j l =
    record {
      low : l.at ≤ l.j;
      high : l.j < l.count;
      before : (k : ℕ) → k < l.at → slice_index l.keys k ≡ slice_index l.initial.keys k;
      moved : (k : ℕ) → l.at ≤ k → k < l.j → slice_index l.keys k ≡ slice_index l.initial.keys (k + 1);
      same : (k : ℕ) → l.j ≤ k → slice_index l.keys k ≡ slice_index l.initial.keys k;
    }

abbrev pub decreases-loop-j : goal.decreases-loop-j
decreases-loop-j l = l.count - l.j
