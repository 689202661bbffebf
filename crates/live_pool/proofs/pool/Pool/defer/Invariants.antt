use Rattle.std.proofs.Common.{◌≡◌}
use Rattle.live_pool.proofs.pool.Pool.defer.Given as goal

abbrev pub invariant-loop-at : goal.invariant-loop-at
invariant-loop-at l = l.guard ≡ l.fn.guard
