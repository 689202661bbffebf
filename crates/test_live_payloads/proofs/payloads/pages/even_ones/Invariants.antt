use Rattle.live_payloads.specs.Payloads.{IsGuardOf}
use Rattle.test_live_payloads.proofs.payloads.pages.even_ones.Given as goal

-- the guard is one of this map
abbrev pub invariant-loop-pair : goal.invariant-loop-pair
invariant-loop-pair l = IsGuardOf l.map l.guard
