use Rattle.std.proofs.Common.{◌+◌}
use Rattle.live_pool.specs.Pops.{HasMissed}
use Rattle.live_pool.proofs.pops.pop.Given as goal

abbrev pub invariant-loop : goal.invariant-loop
invariant-loop l = HasMissed l.up l.low (l.last + 1) l.fn.guard l.guard
