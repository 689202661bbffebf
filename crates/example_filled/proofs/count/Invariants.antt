use Rattle.std.proofs.Common.{◌≡◌}
use Rattle.example_filled.proofs.count.Given as goal

-- the guard is one of this map
abbrev pub invariant-loop-key : goal.invariant-loop-key
invariant-loop-key g l = l.guard.book ≡ l.map
