use Rattle.live_payloads.specs.Payloads.{IsGuardOf}
use Rattle.test_live_payloads.proofs.payloads.pages.all_counted.Given as goal

-- the guard is one of this map
abbrev pub invariant-loop-turn : goal.invariant-loop-turn
invariant-loop-turn g l = IsGuardOf l.map l.guard
