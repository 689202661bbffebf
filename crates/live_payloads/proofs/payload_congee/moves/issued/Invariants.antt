use Rattle.std.proofs.Common.{◌≡◌, take}
use Rattle.live_payloads.specs.inner.Moves.{AreIssuedFor}
use Rattle.live_payloads.proofs.payload_congee.moves.issued.Given as goal

-- a ticket for each payload so far
abbrev pub invariant-loop-number : goal.invariant-loop-number
invariant-loop-number g l = (l.seen.book ≡ l.slots) × AreIssuedFor g.P.Payload.alike l.seen.log (take l.number-index l.owned.pairs) l.tickets.items
