use Rattle.std.proofs.Common.{◌≡◌}
use Rattle.live_payloads.specs.Payloads.{KnowsMore}
use Rattle.live_payloads.specs.Tries.{Tried, ChangedNone}
use Rattle.live_payloads.proofs.payload_congee.PayloadCongee.get_or_insert.Given as goal

-- the payload came back, and no pair was changed
abbrev pub invariant-loop : goal.invariant-loop
invariant-loop g l = record {
  payload : l.payload ≡ l.fn.payload;
  knows : KnowsMore l.fn.guard l.guard;
  tried : Tried (ChangedNone (g.K.Word.number l.fn.key)) l.fn.guard.tickets l.guard.tickets;
}
