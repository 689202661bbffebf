use Rattle.live_payloads.specs.Payloads.{IsGuardOf}
use Rattle.test_live_payloads.proofs.payloads.refusals.stored_at.Given as goal

-- the guard is one of this map
abbrev pub invariant-loop : goal.invariant-loop
invariant-loop g l = IsGuardOf l.map l.guard
