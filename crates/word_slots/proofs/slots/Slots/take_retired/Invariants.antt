use Rattle.std.proofs.Common.{◌≡◌}
use mathlib.Core.List.{IsPrefix}
use Rattle.word_slots.proofs.slots.Slots.take_retired.Given as goal

-- the log is longer than it was
abbrev pub invariant-loop : goal.invariant-loop
invariant-loop g l = (l.seen.book ≡ l.self) × IsPrefix l.fn.seen.log l.seen.log
