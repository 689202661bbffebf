-- CALLS THAT TRY AGAIN: what the tries before the last one did, and what the last one did.
use Rattle.std.specs.Prelude.{◌≡◌, ◌⊎◌, ℕ, zero, suc, Bool, true, false, List, Option, None, Some, IfSome, Ok, Err}
use Rattle.live_nodes.specs.Known.{Known, MadeCall}
use Rattle.live_nodes.specs.Views.{ask, got}
use Rattle.live_updates.specs.Entries.{swapped}
use Rattle.live_updates.specs.ClosureEntries.{inserted_with}
use Rattle.live_scans.specs.Scans.{GaveUp, HasNext}
use Rattle.live_scans.specs.Floors.{HasBefore}
use Rattle.live_pool.specs.Pops.{HasPopped}
use Rattle.word_slots.specs.declared.log.LogEntry.{LogEntry}
use Rattle.word_slots.specs.Tickets.{HasIssued, IsNew, Loan}
use Rattle.live_payloads.specs.Payloads.{PayloadsKnown, IsPayloadOf, IsLoan, FindsPayload}

-- SO MANY TRIES, one after another, each of which did this
abbrev pub HaveTried : (Known → Known → Type 0) → ℕ → Known → Known → Type 0
HaveTried Did zero k n = n ≡ k
HaveTried Did (suc count) k n = (m : Known) × HaveTried Did count k m × Did m n

-- SOME TRIES, or none
abbrev pub Tried : (Known → Known → Type 0) → Known → Known → Type 0
Tried Did k n = (count : ℕ) × HaveTried Did count k n

-- A CALL AT THE KEY CHANGED NO PAIR: a look-up, an exchange of a ticket that the key hadn't, or a get_or_insert that found one
abbrev pub ChangedNone : ℕ → Known → Known → Type 0
ChangedNone key k n = ((found : Option ℕ) × MadeCall k (got (ask k.caller key 0 0) found) n)
    ⊎ ((old : ℕ) × (new : Option ℕ) × (found : Option ℕ) × MadeCall k (swapped k.caller key old new (Err found)) n)
    ⊎ ((found : ℕ) × MadeCall k (inserted_with k.caller key (Some found) found) n)

-- THE NEXT PAIR, upwards (true) from a key on, or downwards below it
abbrev pub HasNeighbour : Bool → ℕ → Known → Option (ℕ × ℕ) → Known → Type 0
HasNeighbour true key k found n = HasNext k key found n
HasNeighbour false key k found n = HasBefore k key found n

-- A SEARCH MISSED IT: it gave up, or the ticket that it found was retired by then
abbrev pub MissedNeighbour : Bool → ℕ → Known → Known → Type 0
MissedNeighbour up key k n = GaveUp k n ⊎ ((p : ℕ × ℕ) × HasNeighbour up key k (Some p) n)

module _ {V : Type 0} where
  -- A LOOK-UP, after calls that changed no pair, found this payload, or none
  abbrev pub FindsAtLast : ℕ → PayloadsKnown V → Option (Loan V) → PayloadsKnown V → Type 0
  FindsAtLast key k found n = (m : Known) × Tried (ChangedNone key) k.tickets m × FindsPayload (got (ask m.caller key 0 0)) m n found

  -- AN ABSENT KEY GOT THIS PAYLOAD, under this ticket, which nobody had before
  abbrev pub AddsPayload : ℕ → ℕ → V → PayloadsKnown V → PayloadsKnown V → Type 0
  AddsPayload key ticket payload k n = (m : Known) × Tried (ChangedNone key) k.tickets m
      × IsNew k.log ticket × HasIssued n.log ticket payload × MadeCall m (inserted_with m.caller key None ticket) n.tickets

  -- A KEY'S PAYLOAD `old`, which has this ticket, WAS EXCHANGED for this one, under a ticket that nobody had before, or for none
  abbrev pub ReplacesPayload : ℕ → ℕ → V → Option V → PayloadsKnown V → PayloadsKnown V → Type 0
  ReplacesPayload key ticket old new k n = (m : Known) × Tried (ChangedNone key) k.tickets m
      × (next : Option ℕ) × IfSome next (IsNew k.log) × HasIssued n.log ticket old × IsPayloadOf n.log next new × MadeCall m (swapped m.caller key ticket next (Ok next)) n.tickets

  -- a key, read back from its number, and what is lent under its ticket, or neither
  abbrev pub IsPairOf : {K : Type 0} → (ℕ → K) → List (LogEntry V) → Option (ℕ × ℕ) → Option (K × Loan V) → Type 0
  IsPairOf of_number log None found = found ≡ None
  IsPairOf of_number log (Some p) found = (l : Loan V) × (found ≡ Some (of_number p.0, l)) × IsLoan log p.1 l

  -- A SEARCH, after some that missed it, found the next pair, or none
  abbrev pub FindsNeighbour : {K : Type 0} → (ℕ → K) → Bool → ℕ → PayloadsKnown V → Option (K × Loan V) → PayloadsKnown V → Type 0
  FindsNeighbour of_number up key k found n = (m : Known) × Tried (MissedNeighbour up key) k.tickets m
      × (pair : Option (ℕ × ℕ)) × HasNeighbour up key m pair n.tickets × IsPairOf of_number n.log pair found

  -- A POP removed this pair, or found none
  abbrev pub PopsPayload : {K : Type 0} → (ℕ → K) → Bool → ℕ → ℕ → PayloadsKnown V → Option (K × Loan V) → PayloadsKnown V → Type 0
  PopsPayload of_number up low high k found n = (pair : Option (ℕ × ℕ)) × HasPopped up low high k.tickets pair n.tickets × IsPairOf of_number n.log pair found
