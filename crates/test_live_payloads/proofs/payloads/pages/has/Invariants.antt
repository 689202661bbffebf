use Rattle.live_payloads.specs.Payloads.{IsGuardOf}
use Rattle.test_live_payloads.proofs.payloads.pages.has.Given as goal

-- the guard is one of this map
abbrev pub invariant-loop-i : goal.invariant-loop-i
invariant-loop-i l = IsGuardOf l.map l.guard
