use Rattle.std.proofs.Common.{◌≡◌, ℕ, ◌+◌, ◌<◌, get_or}
use Rattle.live_layout.specs.Words.{lane}
use Rattle.live_layout.proofs.head.begins.Given as goal

abbrev pub invariant-loop-i : goal.invariant-loop-i
invariant-loop-i l = (j : ℕ) → j < l.i → lane l.word (j + 1) ≡ get_or l.bytes j 0
