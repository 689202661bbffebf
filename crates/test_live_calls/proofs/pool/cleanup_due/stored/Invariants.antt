use Rattle.std.proofs.Common.{◌≡◌}
use Rattle.test_live_calls.proofs.pool.cleanup_due.stored.Given as goal

abbrev pub invariant-loop-key : goal.invariant-loop-key
invariant-loop-key l = l.guard.book ≡ l.map
