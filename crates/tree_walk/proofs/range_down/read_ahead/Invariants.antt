use Rattle.std.proofs.Common.{◌≡◌, ◌≤◌}
use Rattle.tree_walk.proofs.range_down.read_ahead.Given as goal

abbrev pub invariant-loop : goal.invariant-loop
invariant-loop l = (l.seen ≡ l.counter) × (l.to ≤ 256)
