use Rattle.std.proofs.Common.{◌≡◌}
use Rattle.live_copies.proofs.moves.fill.Given as goal

-- the guard is one of this map
abbrev pub invariant-loop-key : goal.invariant-loop-key
invariant-loop-key l = l.guard.book ≡ l.pool
