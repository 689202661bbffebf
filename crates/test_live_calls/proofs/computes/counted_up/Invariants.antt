use Rattle.std.proofs.Common.{◌≡◌, ◌≤◌}
use Rattle.test_live_calls.proofs.computes.counted_up.Given as goal

abbrev pub invariant-loop : goal.invariant-loop
invariant-loop l = record { book : l.guard.book ≡ l.map; few : l.done ≤ l.times }
