use Rattle.std.proofs.Common.{◌≡◌}
use Rattle.live_payloads.specs.Payloads.{KnowsMore}
use Rattle.live_payloads.proofs.payload_congee.PayloadCongee.compare_exchange.Given as goal

-- the new payload came back, and no call of tickets was made
abbrev pub invariant-loop : goal.invariant-loop
invariant-loop g l = (l.new ≡ l.fn.new) × (l.guard.tickets ≡ l.fn.guard.tickets) × KnowsMore l.fn.guard l.guard
