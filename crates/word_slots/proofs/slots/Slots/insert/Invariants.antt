use Rattle.std.proofs.Common.{◌≡◌}
use mathlib.Core.List.{IsPrefix}
use Rattle.word_slots.proofs.slots.Slots.insert.Given as goal

-- the log is longer than it was, and the value is the same
abbrev pub invariant-loop : goal.invariant-loop
invariant-loop g l = (l.seen.book ≡ l.self) × (l.value ≡ l.fn.value) × IsPrefix l.fn.seen.log l.seen.log
