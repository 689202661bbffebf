use Rattle.live_payloads.specs.Payloads.{IsGuardOf}
use Rattle.test_live_payloads.proofs.payloads.churn.counted.Given as goal

-- the guard is one of this map
abbrev pub invariant-loop-owner : goal.invariant-loop-owner
invariant-loop-owner g l = IsGuardOf l.map l.guard
