-- What a value in a slot has beside it.
use Rattle.std.specs.Prelude.{◌≡◌, ℕ, List, [], ◌∷◌, Option, Some, None}
use Rattle.boxcar.specs.Table.{first, others}
use Rattle.boxcar.specs.Slot as boxcar
use Rattle.logbook.specs.Pages.{Book, Named}
use Rattle.word_slots.specs.declared.log.LogEntry.{LogEntry}
use Rattle.word_slots.specs.declared.slot.Ticketed.{Ticketed}
use Rattle.word_slots.specs.Tickets.{HasIssued}

-- A beginning of this table's log, in which the ticket was issued for the value
abbrev pub WasIssued : {V : Type 0} → Book → Book → List (LogEntry V) → ℕ → V → Type 0
WasIssued table book log ticket value = (book ≡ table) × HasIssued log ticket value

-- the value in a slot, as a reader finds it
abbrev pub value_in : {V : Type 0} → Option (Option (Ticketed V)) → Option V
value_in (Some (Some it)) = Some it.value
value_in (Some None) = None
value_in None = None

-- a slot of a table
abbrev pub IsSlotOf : Book → Named → Type 0
IsSlotOf table slot = slot.book ≡ table

-- a table as numbers, which tag its pages
abbrev pub numbers : Book → List ℕ
numbers table = table.number ∷ table.log_name ∷ table.cells_name ∷ []

abbrev pub table_by : List ℕ → Book
table_by t = record { number = first t; log_name = first (others t); cells_name = first (others (others t)) }

abbrev pub IsPageOf : List ℕ → boxcar.Named → Type 0
IsPageOf tag page = page.tag ≡ tag
