use Rattle.std.proofs.Common.{◌≡◌}
use Rattle.live_pool.proofs.retains.exchanged.Given as goal

abbrev pub invariant-loop : goal.invariant-loop
invariant-loop g l = (goal.iterator-loop g).can_next l.iterator' × (goal.iterator-loop g).is_finite l.iterator' × (l.guard ≡ l.initial.guard)
