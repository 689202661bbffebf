use Rattle.live_payloads.specs.Payloads.{KnowsMore}
use Rattle.live_payloads.specs.Tries.{Tried, MissedNeighbour}
use Rattle.live_payloads.proofs.payload_congee.PayloadCongee.find.Given as goal

-- each search so far missed it
abbrev pub invariant-loop : goal.invariant-loop
invariant-loop g l = record {
  knows : KnowsMore l.fn.guard l.guard;
  tried : Tried (MissedNeighbour l.up l.from) l.fn.guard.tickets l.guard.tickets;
}
