-- WHAT A CALL OF A MAP OF OWNERS DID: the call of tickets that was made, and the owners of the tickets that it stored or found.
use Rattle.std.specs.Prelude.{◌≡◌, ◌⊎◌, ℕ, List, [], ◌∷◌, Option, None, Some, IfSome}
use base.Stored.{Coded, coded×, coded_via}
use Rattle.word_book.specs.Book.{Book, book_coded}
use Rattle.word_hazards.specs.Views.{View, In, HasLent, HasIssued, HasReclaimed}
use Rattle.share_rule.specs.History.{Entry}
use Rattle.live_nodes.specs.Known.{Known, MadeCall}
use Rattle.live_nodes.specs.Views.{ask, got, inserted}
use Rattle.live_owners.specs.declared.handle.Lent.{Lent}
use Rattle.live_owners.specs.declared.handle.Previous.{Previous}

-- which map it is: that of the tickets, and the table of the owners
pub record OwnerMap : Type 0 where
  pub tickets : Book
  pub table : Book

abbrev pub owner_map_coded : Coded OwnerMap
owner_map_coded = coded_via (coded× book_coded book_coded) (λ (m : OwnerMap). (m.tickets, m.table)) (λ x y e i. record { tickets = (e i).0; table = (e i).1 })

-- WHAT A HANDLE KNOWS: what it has seen of the map of tickets, and which tickets were issued for which owners, what it has lent,
-- and whose owners it has reclaimed
pub record OwnersKnown : Type 0 where
  pub tickets : Known
  pub table : Book
  pub owners : View

-- a handle is of this map
abbrev pub IsHandleOf : OwnerMap → OwnersKnown → Type 0
IsHandleOf map k = (k.tickets.book ≡ map.tickets) × (k.table ≡ map.table)

-- a handle that knows nothing yet
pub record IsNewHandle (k : OwnersKnown) : Type 0 where
  pub seen : k.tickets.seen ≡ []
  pub issued : k.owners.issued ≡ []
  pub reclaimed : k.owners.reclaimed ≡ []

-- what is known of the owners of tickets is known still
pub record IssuedMore (v w : View) : Type 0 where
  pub known : (t o : ℕ) → HasIssued v t o → HasIssued w t o

-- it is of the same map as it was, and knows as many owners or more
abbrev pub KnowsMore : OwnersKnown → OwnersKnown → Type 0
KnowsMore k n = (n.tickets.book ≡ k.tickets.book) × (n.table ≡ k.table) × IssuedMore k.owners n.owners

-- no owner of a ticket is known
pub record IsNew (v : View) (t : ℕ) : Type 0 where
  pub unknown : (o : ℕ) → HasIssued v t o → ⊥

-- THE HANDLE HAS THE OWNER OF A TICKET LENT: that for which it was issued
abbrev pub IsLoan : View → ℕ → ℕ → Type 0
IsLoan v t o = HasLent v t × HasIssued v t o

-- A CALLER LOOKED UP A KEY IN VAIN, or not at all: the tickets that it found, the last one first, were retired by then
abbrev pub FoundRetired : ℕ → List ℕ → Known → Known → Type 0
FoundRetired key [] k n = n ≡ k
FoundRetired key (t ∷ ts) k n = (m : Known) × FoundRetired key ts k m × MadeCall m (got (ask m.caller key 0 0) (Some t)) n

abbrev pub LookedInVain : ℕ → Known → Known → Type 0
LookedInVain key k n = (tickets : List ℕ) × FoundRetired key tickets k n

abbrev pub ticket_found : Option Lent → Option ℕ
ticket_found None = None
ticket_found (Some l) = Some l.ticket

-- ONE LOOK-UP found this owner, which is lent then, or no ticket
abbrev pub FindsOwner : ℕ → Known → Option Lent → OwnersKnown → Type 0
FindsOwner key k found n = MadeCall k (got (ask k.caller key 0 0) (ticket_found found)) n.tickets × IfSome found (λ l. IsLoan n.owners l.ticket l.owner)

-- A LOOK-UP, after others in vain
abbrev pub GetsOwner : ℕ → OwnersKnown → Option Lent → OwnersKnown → Type 0
GetsOwner key k found n = (last : Known) × LookedInVain key k.tickets last × FindsOwner key last found n

abbrev pub ticket_before : Option Previous → Option ℕ
ticket_before None = None
ticket_before (Some p) = Some p.ticket

-- A TICKET LEFT THE MAP. Where its owner is shown, it is lent to the handle, and the ticket is retired
abbrev pub IsPrevious : View → Previous → Type 0
IsPrevious v p = IfSome p.owner (λ o. IsLoan v p.ticket o × In p.ticket v.retired)

-- no ticket was retired but this one, if there is one
abbrev pub RetiresOnly : View → View → Option ℕ → Type 0
RetiresOnly v w None = w.retired ≡ v.retired
RetiresOnly v w (Some t) = (w.retired ≡ t ∷ v.retired) ⊎ (w.retired ≡ v.retired)

-- A CALL TOOK A KEY'S TICKET OUT, or found none: its entry has that ticket
abbrev pub TakesTicket : (Option ℕ → Entry ℕ) → OwnersKnown → Option Previous → OwnersKnown → Type 0
TakesTicket entry k before n = MadeCall k.tickets (entry (ticket_before before)) n.tickets × IfSome before (IsPrevious n.owners)
    × RetiresOnly k.owners n.owners (ticket_before before)

-- AN INSERTION of this owner, under a ticket of which the handle knew no owner before
abbrev pub InsertsOwner : ℕ → ℕ → OwnersKnown → Option Previous → OwnersKnown → Type 0
InsertsOwner key owner k before n = (ticket : ℕ) × IsNew k.owners ticket × HasIssued n.owners ticket owner
    × TakesTicket (inserted (ask k.tickets.caller key ticket 1)) k before n

-- THE OWNER OF A TICKET CAME BACK, which the handle hadn't reclaimed before
abbrev pub ComesBack : View → View → ℕ → ℕ → Type 0
ComesBack v w t o = HasIssued w t o × (w.reclaimed ≡ t ∷ v.reclaimed) × (HasReclaimed v t → ⊥)

-- no owner did
abbrev pub NoneComesBack : View → View → Type 0
NoneComesBack v w = w.reclaimed ≡ v.reclaimed

-- no owner did, and no ticket was retired
abbrev pub RetiresNone : View → View → Type 0
RetiresNone v w = (w.retired ≡ v.retired) × (w.reclaimed ≡ v.reclaimed)

-- AN OWNER THAT WASN'T STORED IS THE CALLER'S AGAIN: no ticket was retired, or it came back of a ticket of which the handle knew no
-- owner before. Or it isn't: it comes back later
abbrev pub IsBack : View → View → ℕ → Option ℕ → Type 0
IsBack v w owner None = NoneComesBack v w
IsBack v w owner (Some back) = (back ≡ owner) × (RetiresNone v w ⊎ ((t : ℕ) × IsNew v t × ComesBack v w t owner))
