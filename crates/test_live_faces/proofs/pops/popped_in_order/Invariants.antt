use Rattle.std.proofs.Common.{◌≡◌}
use Rattle.test_live_faces.proofs.pops.popped_in_order.Given as goal

abbrev pub invariant-loop-count : goal.invariant-loop-count
invariant-loop-count g l = l.guard.book ≡ l.map
