-- MOVES of all pairs of one moment, between a map that threads share and a map with one owner.
use Rattle.std.specs.Prelude.{◌≡◌, ℕ, nat_eq, List, map, Option, None, Some}
use Rattle.spec_map.specs.Map.{Pairs, lookup}
use Rattle.share_rule.specs.History.{IsHistory}
use Rattle.live_nodes.specs.Known.{Known}
use Rattle.live_copies.specs.Copies.{HasCopied}
use Rattle.word_slots.specs.declared.log.LogEntry.{LogEntry}
use Rattle.word_slots.specs.Tickets.{HasIssued}
use Rattle.live_payloads.specs.Payloads.{PayloadsKnown, IsPayloadOf}

-- ALL KEYS of one moment were listed by a guard that knew k, each read back from its number
abbrev pub HasListedKeys : {K : Type 0} → (ℕ → K) → Known → List K → Known → Type 0
HasListedKeys of_number k keys n = (tickets : Pairs ℕ) × (keys ≡ map (λ p. of_number p.0) tickets) × HasCopied k tickets n

module _ {V : Type 0} where
  -- AN OWNER GOT ALL PAYLOADS of one moment, by a guard that knew k: at each key the payload that its ticket was issued for
  abbrev pub HasMovedOut : Known → List (ℕ × V) → PayloadsKnown V → Type 0
  HasMovedOut k payloads n = (tickets : Pairs ℕ) × HasCopied k tickets n.tickets
      × ((key : ℕ) → IsPayloadOf n.log (lookup tickets key) (lookup payloads key))

  -- THE TICKET FOR A PAYLOAD was issued for one that is alike. There are both, or neither
  abbrev pub IsTicketFor : (V → V → Type 0) → List (LogEntry V) → Option V → Option ℕ → Type 0
  IsTicketFor alike log None ticket = ticket ≡ None
  IsTicketFor alike log (Some x) ticket = (t : ℕ) × (y : V) × (ticket ≡ Some t) × HasIssued log t y × alike x y

  -- A MAP GOT ALL PAYLOADS of an owner: the history of its guard leads to tickets, at each key the ticket for its payload
  abbrev pub HasMovedIn : (V → V → Type 0) → List (ℕ × V) → PayloadsKnown V → Type 0
  HasMovedIn alike payloads n = (tickets : Pairs ℕ) × IsHistory nat_eq n.tickets.seen tickets
      × ((key : ℕ) → IsTicketFor alike n.log (lookup payloads key) (lookup tickets key))
