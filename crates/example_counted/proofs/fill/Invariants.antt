use Rattle.std.proofs.Common.{◌≡◌}
use Rattle.example_counted.proofs.fill.Given as goal

-- the guard is one of this map
abbrev pub invariant-loop-key : goal.invariant-loop-key
invariant-loop-key g l = l.guard.table ≡ l.map
