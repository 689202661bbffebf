use Rattle.live_payloads.specs.Payloads.{IsGuardOf}
use Rattle.test_live_payloads.proofs.payloads.limits.filled.Given as goal

-- the guard is one of this map
abbrev pub invariant-loop-count : goal.invariant-loop-count
invariant-loop-count g l = IsGuardOf l.map l.guard
