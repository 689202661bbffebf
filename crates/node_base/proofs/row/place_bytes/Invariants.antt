use Rattle.std.proofs.Common.{◌≡◌, ◌≢◌, ℕ, ◌<◌, slice_index}
use Rattle.node_base.proofs.row.place_bytes.Given as goal

abbrev pub invariant-loop-i : goal.invariant-loop-i
invariant-loop-i l =
    record {
      placed : (k : ℕ) → k < l.i → slice_index l.index (slice_index l.bytes k) ≡ k;
      others : (b : ℕ) → ((k : ℕ) → k < l.i → slice_index l.bytes k ≢ b) → slice_index l.index b ≡ slice_index l.initial.index b;
    }
