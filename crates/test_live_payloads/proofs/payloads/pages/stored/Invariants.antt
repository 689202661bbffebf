use Rattle.live_payloads.specs.Payloads.{IsGuardOf}
use Rattle.test_live_payloads.proofs.payloads.pages.stored.Given as goal

-- the guard is one of this map
abbrev pub invariant-loop-at : goal.invariant-loop-at
invariant-loop-at g l = IsGuardOf l.map l.guard
