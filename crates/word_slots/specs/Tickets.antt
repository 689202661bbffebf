-- THE LOG of a table of slots: which ticket was issued for which value. It only grows.
use Rattle.std.specs.Prelude.{◌≡◌, ℕ, suc, ◌/◌, ◌%◌, ◌<◌, true, false, List, length, slice_get, Option, Some}
use base.Stored.{Coded, coded×, coded_ℕ, coded_via}
use Rattle.std.specs.Coded.{coded_option}
use Rattle.logbook.specs.Pages.{Book, book_coded, Cell, cell, Step, View, nib, may_make}
use Rattle.word_slots.specs.declared.log.LogEntry.{LogEntry}
use Rattle.word_slots.specs.declared.log.LogEntry.TheVariants.{Opened, Issued}

-- a ticket's slot, and its generation: how often the slot was used before
abbrev pub ticket_slot : ℕ → ℕ
ticket_slot ticket = ticket % 4294967296

abbrev pub ticket_generation : ℕ → ℕ
ticket_generation ticket = ticket / 4294967296

module _ {V : Type 0} where
  -- THIS TICKET WAS ISSUED for this value.
  abbrev pub HasIssued : List (LogEntry V) → ℕ → V → Type 0
  HasIssued log ticket value = (i : ℕ) × (slice_get log i ≡ Some (Issued ticket value))

  -- It was issued for none.
  abbrev pub IsNew : List (LogEntry V) → ℕ → Type 0
  IsNew log ticket = (value : V) → HasIssued log ticket value → ⊥

  -- There is a slot with this index.
  abbrev pub HasOpened : List (LogEntry V) → ℕ → Type 0
  HasOpened log index = (i : ℕ) × (slice_get log i ≡ Some (Opened index))

  -- THE RULE, of the words and the log. The first word counts the slots. Each further one counts the tickets of a slot, and a
  -- ticket is issued once
  pub record IssuesOnce (cells : List Cell) (log : List (LogEntry V)) : Type 0 where
    pub long : length cells ≡ suc (cell cells 0).0
    pub home : (cell cells 0).1 ≡ true
    pub away : (k : ℕ) → (cell cells k).1 ≡ false → (cell cells k).0 ≡ 0
    pub opened : (i index : ℕ) → slice_get log i ≡ Some (Opened index) → (cell cells (suc index)).1 ≡ true
    pub used : (i ticket : ℕ) (v : V) → slice_get log i ≡ Some (Issued ticket v) → ticket_generation ticket < (cell cells (suc (ticket_slot ticket))).0
    pub once : (i j ticket : ℕ) (v w : V) → slice_get log i ≡ Some (Issued ticket v) → slice_get log j ≡ Some (Issued ticket w) → i ≡ j

  -- What a step lets its caller know: if it found the expected number, the caller may make the word with the next key,
  abbrev pub Adds : {A : Type 0} → Step (LogEntry V) → View (LogEntry V) A → ℕ → View (LogEntry V) A → Type 0
  Adds s v found w = found ≡ s.old → w.1.0 ≡ nib may_make (suc s.old) 0

  -- what was asked is in the log,
  abbrev pub Enters : {A : Type 0} → Step (LogEntry V) → View (LogEntry V) A → ℕ → View (LogEntry V) A → Type 0
  Enters s v found w = (i : ℕ) × (slice_get w.0 i ≡ Some s.ask)

  -- or, if it found the expected number, the ticket is in the log, and was in none that was known.
  abbrev pub Issues : {A : Type 0} → Step (LogEntry V) → View (LogEntry V) A → ℕ → View (LogEntry V) A → Type 0
  Issues s v found w = found ≡ s.old → (i : ℕ) × (slice_get w.0 i ≡ Some s.ask) × ((ticket : ℕ) (value : V) → s.ask ≡ Issued ticket value → IsNew v.0 ticket)

-- A VALUE THAT IS LENT: by which table, under which ticket, and the value itself
pub record Loan (V : Type 0) : Type 0 where
  pub table : Book
  pub ticket : ℕ
  pub value : Option V

abbrev pub loan_coded : {V : Type 0} → Coded V → Coded (Loan V)
loan_coded {V} c = coded_via (coded× book_coded (coded× coded_ℕ (coded_option c))) (λ (l : Loan V). (l.table, (l.ticket, l.value)))
    (λ x y e i. record { table = (e i).0; ticket = (e i).1.0; value = (e i).1.1 })
