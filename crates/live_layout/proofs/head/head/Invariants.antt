use Rattle.std.proofs.Common.{◌≡◌, ℕ, ◌+◌, ◌*◌, ◌<◌, length, get_or}
use Rattle.live_layout.specs.Words.{lane}
use Rattle.live_layout.proofs.head.head.Given as goal

abbrev pub invariant-loop-i : goal.invariant-loop-i
invariant-loop-i l = record {
  sized : lane l.word 0 ≡ 8 * l.form + length l.prefix;
  bytes : (j : ℕ) → j < l.i → lane l.word (j + 1) ≡ get_or l.prefix j 0;
}
