use Rattle.std.proofs.Common.{◌≡◌, ◌≤◌, ◌-◌, length}
use Rattle.std.specs.List.{All}
use Rattle.std.specs.Prelude.{vec_capacity}
use Rattle.word_slots.specs.Slots.{IsPageOf}
use Rattle.word_slots.proofs.slots.no_pages.Given as goal

-- the pages so far have the table's numbers, and there is memory for the rest
abbrev pub invariant-loop-page : goal.invariant-loop-page
invariant-loop-page g l =
    (l.page ≤ 26) × (26 ≤ vec_capacity l.pages) × (length l.pages.items ≡ l.page) × All (IsPageOf l.fn.tag.numbers) l.pages.items

abbrev pub decreases-loop-page : goal.decreases-loop-page
decreases-loop-page g l = 26 - l.page
