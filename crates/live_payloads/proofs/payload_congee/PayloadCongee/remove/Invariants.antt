use Rattle.std.proofs.Common.{◌≡◌}
use Rattle.live_payloads.proofs.payload_congee.PayloadCongee.remove.Given as goal

-- nothing has changed yet
abbrev pub invariant-loop : goal.invariant-loop
invariant-loop g l = l.guard ≡ l.initial.guard
