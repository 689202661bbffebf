use Rattle.std.proofs.Common.{◌≡◌}
use Rattle.live_pool.proofs.pool.Pool.tidy_earlier.Given as goal

abbrev pub invariant-loop : goal.invariant-loop
invariant-loop l = l.guard ≡ l.fn.guard
