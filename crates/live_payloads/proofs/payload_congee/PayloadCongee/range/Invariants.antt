use Rattle.live_scans.specs.Scans.{HasWaited}
use Rattle.live_payloads.specs.Payloads.{KnowsMore}
use Rattle.live_payloads.proofs.payload_congee.PayloadCongee.range.Given as goal

-- each try so far gave up
abbrev pub invariant-loop : goal.invariant-loop
invariant-loop g l = (goal.iterator-loop g).can_next l.iterator' × (goal.iterator-loop g).is_finite l.iterator' × KnowsMore l.fn.guard l.guard × HasWaited l.fn.guard.tickets l.guard.tickets
