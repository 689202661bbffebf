use Rattle.live_payloads.specs.Payloads.{IsGuardOf}
use Rattle.test_live_payloads.proofs.payloads.neighbours.wrong_row.Given as goal

-- the guard is one of this map
abbrev pub invariant-loop-key : goal.invariant-loop-key
invariant-loop-key g l = IsGuardOf l.map l.guard
