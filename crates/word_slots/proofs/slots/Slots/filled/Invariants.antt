use Rattle.std.proofs.Common.{◌≡◌, ◌≤◌, ◌-◌, length}
use Rattle.std.specs.List.{All}
use Rattle.std.specs.Prelude.{vec_capacity}
use Rattle.word_slots.specs.Slots.{IsSlotOf}
use Rattle.word_slots.proofs.slots.Slots.filled.Given as goal

-- the slots so far are of the table, and there is memory for the rest
abbrev pub invariant-loop-at : goal.invariant-loop-at
invariant-loop-at g l =
    (l.at ≤ l.fn.count) × (l.fn.count ≤ vec_capacity l.slots) × (length l.slots.items ≡ l.at) × (l.seen.book ≡ l.self)
    × All (IsSlotOf l.self) l.slots.items

abbrev pub decreases-loop-at : goal.decreases-loop-at
decreases-loop-at g l = l.fn.count - l.at
