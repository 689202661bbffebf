-- The counts of the keys before this one are raised, and the others are as they were.
use Rattle.std.proofs.Common.{◌≡◌, ℕ, ◌+◌, ◌≤◌, ◌<◌, ◌%◌, min}
use Rattle.share_tree.proofs.changes.ChangeCounts.raise_all.Given as goal
use Rattle.share_tree.specs.inner.Current.{change_count}

abbrev pub invariant-loop-key : goal.invariant-loop-key
invariant-loop-key l = record {
  small : (k : ℕ) → k % 64 < l.key → change_count l.initial.self k ≤ 18446744073709551615;
  raised : (k : ℕ) → k % 64 < l.key → change_count l.self k ≡ min (change_count l.initial.self k + 1) 18446744073709551615;
  still : (k : ℕ) → l.key ≤ k % 64 → change_count l.self k ≡ change_count l.initial.self k;
}
