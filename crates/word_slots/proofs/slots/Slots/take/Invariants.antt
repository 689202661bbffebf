use Rattle.std.proofs.Common.{◌≡◌}
use Rattle.word_slots.proofs.slots.Slots.take.Given as goal

-- nothing is known yet but what was
abbrev pub invariant-loop : goal.invariant-loop
invariant-loop g l = (l.seen ≡ l.fn.seen) × (l.lent.table ≡ l.self) × (l.lent.ticket ≡ l.fn.ticket)
