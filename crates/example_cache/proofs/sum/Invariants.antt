use Rattle.live_payloads.specs.Payloads.{IsGuardOf}
use Rattle.example_cache.proofs.sum.Given as goal

-- the guard is one of this map
abbrev pub invariant-loop-at : goal.invariant-loop-at
invariant-loop-at g l = IsGuardOf l.cache l.guard
