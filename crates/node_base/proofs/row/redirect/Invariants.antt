use Rattle.std.proofs.Common.{◌≡◌, ◌≢◌, ℕ, ◌<◌, ◌≤◌, slice_index}
use Rattle.node_base.proofs.row.redirect.Given as goal

abbrev pub invariant-loop-i : goal.invariant-loop-i
invariant-loop-i l =
    record {
      moved : (b : ℕ) → b < l.i → slice_index l.initial.index b ≡ l.from → slice_index l.index b ≡ l.to;
      others : (b : ℕ) → b < l.i → slice_index l.initial.index b ≢ l.from → slice_index l.index b ≡ slice_index l.initial.index b;
      same : (b : ℕ) → l.i ≤ b → slice_index l.index b ≡ slice_index l.initial.index b;
    }
