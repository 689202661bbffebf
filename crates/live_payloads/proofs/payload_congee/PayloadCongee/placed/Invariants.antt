use Rattle.std.proofs.Common.{◌≡◌, take}
use mathlib.Core.List.{IsPrefix}
use Rattle.live_payloads.specs.inner.Moves.{map_of, HaveSameKeys, ArePlaced}
use Rattle.live_payloads.proofs.payload_congee.PayloadCongee.placed.Given as goal

-- the payloads so far are in their places, and there is one for each key
abbrev pub invariant-loop-number : goal.invariant-loop-number
invariant-loop-number g l =
    (l.seen.book ≡ l.self.table) × IsPrefix l.fn.seen.log l.seen.log × HaveSameKeys l.tickets l.owned.pairs
    × ArePlaced l.seen.log (map_of (take l.number-index l.tickets)) l.owned.pairs
