use Rattle.live_payloads.specs.Payloads.{KnowsMore, LookedInVain}
use Rattle.live_payloads.proofs.payload_congee.PayloadCongee.get.Given as goal

-- the key was looked up in vain so far
abbrev pub invariant-loop : goal.invariant-loop
invariant-loop g l = KnowsMore l.fn.guard l.guard × LookedInVain (g.K.Word.number l.fn.key) l.fn.guard.tickets l.guard.tickets
