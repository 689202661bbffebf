use Rattle.live_payloads.specs.Payloads.{IsGuardOf}
use Rattle.test_live_payloads.proofs.payloads.pages.wrong_row.Given as goal

-- the guard is one of this map
abbrev pub invariant-loop-row : goal.invariant-loop-row
invariant-loop-row g l = IsGuardOf l.map l.guard
