use Rattle.std.proofs.Common.{◌≢◌, ℕ, ◌<◌, slice_index_or}
use Rattle.text_trace.proofs.content.find.Given as goal

abbrev pub invariant-loop-i : goal.invariant-loop-i
invariant-loop-i l = (j : ℕ) (d : ℕ × ℕ) → j < l.i → (slice_index_or l.pairs j d).0 ≢ l.key
