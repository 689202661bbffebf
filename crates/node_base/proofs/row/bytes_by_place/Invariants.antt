use Rattle.std.proofs.Common.{◌≡◌, ℕ, ◌<◌, length, slice_index}
use Rattle.node_base.proofs.row.bytes_by_place.Given as goal

abbrev pub invariant-loop-b : goal.invariant-loop-b
invariant-loop-b l =
    record {
      long : length l.bytes ≡ 256;
      placed : (k : ℕ) → k < l.b → ((d : ℕ) → d < 256 → slice_index l.index d ≡ slice_index l.index k → d ≡ k) → slice_index l.bytes (slice_index l.index k) ≡ k;
    }
