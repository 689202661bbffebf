use Rattle.std.proofs.Common.{◌≡◌, ◌≤◌}
use Rattle.test_live_calls.proofs.tests.wrong_reads.Given as goal

abbrev pub invariant-loop : goal.invariant-loop
invariant-loop l = record { book : l.guard.book ≡ l.map; few : l.found ≤ l.count }
