use Rattle.std.proofs.Common.{◌≡◌}
use mathlib.Core.List.{IsPrefix}
use Rattle.live_payloads.proofs.payload_congee.moves.entered.Given as goal

-- the payload came back, and the log is longer than it was
abbrev pub invariant-loop : goal.invariant-loop
invariant-loop g l = (l.seen.book ≡ l.slots) × (l.payload ≡ l.fn.payload) × IsPrefix l.fn.seen.log l.seen.log
