-- WHAT A CALL OF A MAP OF PAYLOADS DID: the call of tickets that was made, and the payloads of the tickets that it stored or found.
use Rattle.std.specs.Prelude.{◌≡◌, ℕ, List, [], ◌∷◌, Option, None, Some, IfSome, Result}
use base.Stored.{Coded, coded×, coded_via}
use mathlib.Core.List.{IsPrefix}
use Rattle.logbook.specs.Pages as logs
use Rattle.word_book.specs.Book as words
use Rattle.share_rule.specs.History.{Entry}
use Rattle.live_nodes.specs.Known.{Known, MadeCall}
use Rattle.live_nodes.specs.Views.{ask, got, inserted}
use Rattle.live_updates.specs.Entries.{swapped}
use Rattle.word_slots.specs.declared.log.LogEntry.{LogEntry}
use Rattle.word_slots.specs.Tickets.{HasIssued, IsNew, Loan}

-- which map it is: that of the tickets, and the table of the payloads
pub record PayloadMap : Type 0 where
  pub tickets : words.Book
  pub table : logs.Book

abbrev pub payload_map_coded : Coded PayloadMap
payload_map_coded = coded_via (coded× words.book_coded logs.book_coded) (λ (m : PayloadMap). (m.tickets, m.table))
    (λ x y e i. record { tickets = (e i).0; table = (e i).1 })

-- WHAT A CALLER KNOWS: what it has seen of the map of tickets, and a beginning of the log of the table
pub record PayloadsKnown (V : Type 0) : Type 0 where
  pub tickets : Known
  pub table : logs.Book
  pub log : List (LogEntry V)

-- A CALLER LOOKED UP A KEY IN VAIN, or not at all: the tickets that it found, the last one first, were retired by then
abbrev pub FoundRetired : ℕ → List ℕ → Known → Known → Type 0
FoundRetired key [] k n = n ≡ k
FoundRetired key (t ∷ ts) k n = (m : Known) × FoundRetired key ts k m × MadeCall m (got (ask m.caller key 0 0) (Some t)) n

abbrev pub LookedInVain : ℕ → Known → Known → Type 0
LookedInVain key k n = (tickets : List ℕ) × FoundRetired key tickets k n

module _ {V : Type 0} where
  -- a guard is of this map
  abbrev pub IsGuardOf : PayloadMap → PayloadsKnown V → Type 0
  IsGuardOf map k = (k.tickets.book ≡ map.tickets) × (k.table ≡ map.table)

  -- it is of the same map as it was, and knows as much of the payloads or more
  abbrev pub KnowsMore : PayloadsKnown V → PayloadsKnown V → Type 0
  KnowsMore k n = (n.tickets.book ≡ k.tickets.book) × (n.table ≡ k.table) × IsPrefix k.log n.log

  -- THE PAYLOAD OF A TICKET: there is a ticket, and it was issued for this payload, or there is neither
  abbrev pub IsPayloadOf : List (LogEntry V) → Option ℕ → Option V → Type 0
  IsPayloadOf log None payload = payload ≡ None
  IsPayloadOf log (Some ticket) payload = (x : V) × (payload ≡ Some x) × HasIssued log ticket x

  -- WHAT IS LENT under a ticket: the payload that it was issued for
  abbrev pub IsLoan : List (LogEntry V) → ℕ → Loan V → Type 0
  IsLoan log ticket lent = (lent.ticket ≡ ticket) × IsPayloadOf log (Some ticket) lent.value

  -- what is lent under a ticket, or nothing, where there is no ticket
  abbrev pub IsLoanOf : List (LogEntry V) → Option ℕ → Option (Loan V) → Type 0
  IsLoanOf log None lent = lent ≡ None
  IsLoanOf log (Some ticket) lent = (l : Loan V) × (lent ≡ Some l) × IsLoan log ticket l

  -- A CALL FOUND THIS PAYLOAD, or none: its entry has the ticket that the key had, and under that the payload is lent
  abbrev pub FindsPayload : (Option ℕ → Entry ℕ) → Known → PayloadsKnown V → Option (Loan V) → Type 0
  FindsPayload entry k n found = (ticket : Option ℕ) × MadeCall k (entry ticket) n.tickets × IsLoanOf n.log ticket found

  -- A LOOK-UP
  abbrev pub GetsPayload : ℕ → PayloadsKnown V → Option (Loan V) → PayloadsKnown V → Type 0
  GetsPayload key k found n = (last : Known) × LookedInVain key k.tickets last × FindsPayload (got (ask last.caller key 0 0)) last n found

  -- AN INSERTION of this payload, under a ticket that nobody had before
  abbrev pub InsertsPayload : ℕ → V → PayloadsKnown V → Option (Loan V) → PayloadsKnown V → Type 0
  InsertsPayload key payload k before n = (ticket : ℕ) × IsNew k.log ticket × HasIssued n.log ticket payload × FindsPayload (inserted (ask k.tickets.caller key ticket 1)) k.tickets n before

  -- AN EXCHANGE of the payload with the ticket `old` for this one, under a ticket that nobody had before, or for none, by what was
  -- answered to the ticket of the new one
  abbrev pub ExchangesPayload : ℕ → ℕ → Option V → (Option ℕ → Result (Option ℕ) (Option ℕ)) → PayloadsKnown V → PayloadsKnown V → Type 0
  ExchangesPayload key old new answer k n = (ticket : Option ℕ) × IfSome ticket (IsNew k.log) × IsPayloadOf n.log ticket new × MadeCall k.tickets (swapped k.tickets.caller key old ticket (answer ticket)) n.tickets
