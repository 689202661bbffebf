-- EXCHANGES BY TICKET, and additions.
use Rattle.std.specs.Prelude.{◌≡◌, ◌⊎◌, ℕ, Option, None, Some, Ok, Err}
use Rattle.word_hazards.specs.Views.{HasIssued}
use Rattle.live_nodes.specs.Known.{Known, MadeCall}
use Rattle.live_nodes.specs.Views.{ask, got}
use Rattle.live_updates.specs.Entries.{swapped}
use Rattle.live_updates.specs.ClosureEntries.{inserted_with}
use Rattle.live_owners.specs.declared.handle.Previous.{Previous}
use Rattle.live_owners.specs.Owners.{OwnersKnown, IssuedMore, IsNew, IsPrevious, RetiresOnly, LookedInVain}

-- AN EXCHANGE of a key's ticket `old` for this owner, under a ticket of which the handle knew no owner before
abbrev pub ExchangesOwner : ℕ → ℕ → ℕ → OwnersKnown → Previous → OwnersKnown → Type 0
ExchangesOwner key old owner k before n = (ticket : ℕ) × IsNew k.owners ticket × HasIssued n.owners ticket owner
    × MadeCall k.tickets (swapped k.tickets.caller key old (Some ticket) (Ok (Some ticket))) n.tickets
    × (before.ticket ≡ old) × IsPrevious n.owners before × RetiresOnly k.owners n.owners (Some old)

-- AN EXCHANGE WAS LOST: the key had another ticket, or none
abbrev pub LosesExchange : ℕ → ℕ → OwnersKnown → OwnersKnown → Type 0
LosesExchange key old k n = (ticket : ℕ) × (found : Option ℕ) × MadeCall k.tickets (swapped k.tickets.caller key old (Some ticket) (Err found)) n.tickets

-- A KEY'S TICKET `old` WAS TAKEN OUT, since the key had it still
abbrev pub RemovesTicket : ℕ → ℕ → OwnersKnown → Previous → OwnersKnown → Type 0
RemovesTicket key old k before n = MadeCall k.tickets (swapped k.tickets.caller key old None (Ok None)) n.tickets
    × (before.ticket ≡ old) × IsPrevious n.owners before × RetiresOnly k.owners n.owners (Some old)

-- A REMOVAL WAS LOST: the key had another ticket, or none
abbrev pub LosesRemoval : ℕ → ℕ → OwnersKnown → OwnersKnown → Type 0
LosesRemoval key old k n = (found : Option ℕ) × MadeCall k.tickets (swapped k.tickets.caller key old None (Err found)) n.tickets

-- THE KEY WAS ABSENT, by a look-up after others in vain
abbrev pub WasAbsent : ℕ → Known → Known → Type 0
WasAbsent key k n = (last : Known) × LookedInVain key k last × MadeCall last (got (ask last.caller key 0 0) None) n

-- AN ABSENT KEY GOT THIS OWNER, under a ticket of which the handle knew no owner before,
abbrev pub Adds : ℕ → ℕ → OwnersKnown → OwnersKnown → Type 0
Adds key owner k n = (ticket : ℕ) × IsNew k.owners ticket × HasIssued n.owners ticket owner × MadeCall k.tickets (inserted_with k.tickets.caller key None ticket) n.tickets

-- after a look-up that found none
abbrev pub AddsOwner : ℕ → ℕ → OwnersKnown → OwnersKnown → Type 0
AddsOwner key owner k n = (m : OwnersKnown) × WasAbsent key k.tickets m.tickets × IssuedMore k.owners m.owners × Adds key owner m n

-- A CALL FOUND A TICKET at the key, or none, and stored nothing. Or it wasn't made
abbrev pub StoresNone : ℕ → Known → Known → Type 0
StoresNone key k n = (n ≡ k) ⊎ ((found : Option ℕ) × MadeCall k (got (ask k.caller key 0 0) found) n)
    ⊎ ((found : ℕ) × MadeCall k (inserted_with k.caller key (Some found) found) n)

-- NO OWNER WAS ADDED: the look-up was in vain. Or the key was absent, and then the call stored nothing
abbrev pub AddsNone : ℕ → Known → Known → Type 0
AddsNone key k n = LookedInVain key k n ⊎ ((m : Known) × WasAbsent key k m × StoresNone key m n)
