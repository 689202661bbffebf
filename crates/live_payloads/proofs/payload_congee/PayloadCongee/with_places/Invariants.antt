use Rattle.std.proofs.Common.{take}
use Rattle.live_payloads.specs.inner.Moves.{HaveSameKeys}
use Rattle.live_payloads.proofs.payload_congee.PayloadCongee.with_places.Given as goal

-- a place for each key so far
abbrev pub invariant-loop-number : goal.invariant-loop-number
invariant-loop-number g l = HaveSameKeys (take l.number-index l.tickets) l.owned.pairs
