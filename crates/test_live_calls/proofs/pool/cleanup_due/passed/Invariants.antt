use Rattle.std.proofs.Common.{◌≡◌}
use Rattle.test_live_calls.proofs.pool.cleanup_due.passed.Given as goal

abbrev pub invariant-loop : goal.invariant-loop
invariant-loop l = l.guard.book ≡ l.map

abbrev pub invariant-loop-2 : goal.invariant-loop-2
invariant-loop-2 l = l.guard.book ≡ l.map

abbrev pub invariant-loop-i : goal.invariant-loop-i
invariant-loop-i l = l.guard.book ≡ l.map
