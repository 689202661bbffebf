use Rattle.std.proofs.Common.{◌≡◌}
use Rattle.example_filled.proofs.fill.Given as goal

-- the guard is one of this map
abbrev pub invariant-loop : goal.invariant-loop
invariant-loop g l = l.guard.book ≡ l.map
