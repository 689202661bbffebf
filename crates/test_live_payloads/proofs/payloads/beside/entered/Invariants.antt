use Rattle.live_payloads.specs.Payloads.{IsGuardOf}
use Rattle.test_live_payloads.proofs.payloads.beside.entered.Given as goal

-- the guard is one of this map
abbrev pub invariant-loop-key : goal.invariant-loop-key
invariant-loop-key g l = IsGuardOf l.map l.guard
