-- WHICH WORDS there are, and what each step makes of a seat's view.
use Rattle.std.specs.Prelude.{◌≡◌, ◌≢◌, ℕ, zero, suc, ◌+◌, ◌-◌, ◌*◌, ◌/◌, ◌%◌, ◌<◌, ◌≤◌, true, false, List, [], ◌∷◌, Option, Some, None}
use Rattle.word_book.specs.Book.{reads, writes, compares, Tells}
use Rattle.word_segments.specs.Segments.{keys}
use Rattle.word_hazards.specs.Views.{generation_of, ticket, In, Claim, View, HasIssued, HasReclaimed}

-- Words 0 to 63 are hazards. A hazard with 0 is nobody's, one with 1 announces nothing, and one with t + 2 announces the ticket t.
-- Word 64 counts the segments. All others are those of slots: a state, the owner, a link, and one that isn't used
abbrev pub state_key : ℕ → ℕ
state_key slot = 65 + 4 * slot

abbrev pub owner_key : ℕ → ℕ
owner_key slot = 66 + 4 * slot

abbrev pub link_key : ℕ → ℕ
link_key slot = 67 + 4 * slot

-- the slot with the state at this key
abbrev pub slot_at : ℕ → ℕ
slot_at key = (key - 65) / 4

-- THE STATES of a slot in a generation. It is free, or claimed by one seat. Or its ticket is issued, or retired
abbrev pub free_in : ℕ → ℕ
free_in generation = 4 * generation

abbrev pub claimed_in : ℕ → ℕ
claimed_in generation = 4 * generation + 1

abbrev pub present_in : ℕ → ℕ
present_in generation = 4 * generation + 2

abbrev pub retired_in : ℕ → ℕ
retired_in generation = 4 * generation + 3

-- the generation of a state
abbrev pub generation_in : ℕ → ℕ
generation_in state = state / 4

-- WHAT A SEAT KNOWS once it has a hazard,
abbrev pub settling : View → ℕ → View
settling v k = record v { hazard = Some k; announced = 1; lent = false }

-- has left it,
abbrev pub leaving : View → View
leaving v = record v { hazard = None; announced = 0; lent = false }

-- announces another number,
abbrev pub announcing : View → ℕ → View
announcing v x = record v { announced = x; lent = false }

-- has found that the ticket is still issued,
abbrev pub lending : View → View
lending v = record v { lent = true }

-- has read which owner that has,
abbrev pub learning : View → ℕ → ℕ → View
learning v t owner = record v { issued = (t, owner) ∷ v.issued }

-- has claimed a slot,
abbrev pub claiming : View → ℕ → ℕ → View
claiming v slot generation = record v { claim = Some (record { slot = slot; generation = generation; owner = None }) }

-- has put an owner there,
abbrev pub filled : Option Claim → ℕ → Option Claim
filled (Some c) owner = Some (record c { owner = Some owner })
filled None owner = None

abbrev pub filling : View → ℕ → View
filling v owner = record v { claim = filled v.claim owner }

-- has issued the ticket,
abbrev pub issuing : View → ℕ → ℕ → View
issuing v t owner = record v { issued = (t, owner) ∷ v.issued; claim = None }

-- knows one more ticket that is retired,
abbrev pub retiring : View → ℕ → View
retiring v t = record v { retired = t ∷ v.retired; scanned = 0; found = []; peeked = None }

-- has read a hazard, where the first one begins a scan,
abbrev pub found_before : ℕ → List ℕ → List ℕ
found_before zero found = []
found_before (suc k) found = found

abbrev pub scanning : View → ℕ → ℕ → View
scanning v k n = record v { scanned = k + 1; found = n ∷ found_before k v.found }

-- has read the owner in a slot,
abbrev pub peeking : View → ℕ → ℕ → View
peeking v slot owner = record v { peeked = Some (slot, owner) }

-- or has reclaimed the owner.
abbrev pub reclaiming : View → ℕ → ℕ → View
reclaiming v t owner = record v { issued = (t, owner) ∷ v.issued; reclaimed = t ∷ v.reclaimed }

-- NOBODY HAS THE TICKET LENT, or will: it was retired before a scan of all hazards, none of which announced it.
pub record IsUnlent (v : View) (t : ℕ) : Type 0 where
  pub retired : In t v.retired
  pub scanned : 64 ≤ v.scanned
  pub found : ¬ (In (t + 2) v.found)

-- WHAT A SEAT KNOWS AFTER A STEP. No more than before.
abbrev pub Same : Tells View
Same asked v n m w = w ≡ v

abbrev pub Settles : Tells View
Settles (compares k a b) v n m w = (n ≡ a → w ≡ settling v k) × (n ≢ a → w ≡ v)
Settles (reads k) v n m w = Unit {0}
Settles (writes k x) v n m w = Unit {0}

abbrev pub Leaves : Tells View
Leaves (writes k x) v n m w = w ≡ leaving v
Leaves (reads k) v n m w = Unit {0}
Leaves (compares k a b) v n m w = Unit {0}

abbrev pub Announces : Tells View
Announces (writes k x) v n m w = w ≡ announcing v x
Announces (reads k) v n m w = Unit {0}
Announces (compares k a b) v n m w = Unit {0}

-- The state of the announced ticket's slot was read.
abbrev pub Validates : Tells View
Validates (reads k) v n m w =
    let is = present_in (generation_of (v.announced - 2)) in (n ≡ is → w ≡ lending v) × (n ≢ is → w ≡ v)
Validates (writes k x) v n m w = Unit {0}
Validates (compares k a b) v n m w = Unit {0}

-- The owner of the ticket that is lent was read.
abbrev pub Learns : Tells View
Learns (reads k) v n m w = w ≡ learning v (v.announced - 2) n
Learns (writes k x) v n m w = Unit {0}
Learns (compares k a b) v n m w = Unit {0}

abbrev pub Claims : Tells View
Claims (compares k a b) v n m w = (n ≡ a → w ≡ claiming v (slot_at k) (generation_in a)) × (n ≢ a → w ≡ v)
Claims (reads k) v n m w = Unit {0}
Claims (writes k x) v n m w = Unit {0}

abbrev pub Fills : Tells View
Fills (writes k x) v n m w = w ≡ filling v x
Fills (reads k) v n m w = Unit {0}
Fills (compares k a b) v n m w = Unit {0}

-- The ticket of the claim is issued. The seat knew no owner of it before.
abbrev pub Issues : Tells View
Issues (writes k x) v n m w = (c : Claim) (owner : ℕ) → v.claim ≡ Some c → c.owner ≡ Some owner
    → let t = ticket c.generation c.slot in (w ≡ issuing v t owner) × ((o : ℕ) → HasIssued v t o → ⊥)
Issues (reads k) v n m w = Unit {0}
Issues (compares k a b) v n m w = Unit {0}

-- A ticket that was issued is retired now. Or a state was read. Where a retired ticket has that state, the seat knows the ticket.
abbrev pub Retires : Tells View
Retires (compares k a b) v n m w = (n ≡ a → w ≡ retiring v (ticket (generation_in a) (slot_at k))) × (n ≢ a → w ≡ v)
Retires (reads k) v n m w = let is = (n % 4 ≡ 3) × (n < 17179869184) in (is → w ≡ retiring v (ticket (generation_in n) (slot_at k))) × (¬ is → w ≡ v)
Retires (writes k x) v n m w = Unit {0}

abbrev pub Scans : Tells View
Scans (reads k) v n m w = w ≡ scanning v k n
Scans (writes k x) v n m w = Unit {0}
Scans (compares k a b) v n m w = Unit {0}

abbrev pub Peeks : Tells View
Peeks (reads k) v n m w = w ≡ peeking v (slot_at (k - 1)) n
Peeks (writes k x) v n m w = Unit {0}
Peeks (compares k a b) v n m w = Unit {0}

-- The ticket's slot is free again, and the seat hadn't reclaimed the owner before. Or another seat was first.
abbrev pub Reclaims : Tells View
Reclaims (compares k a b) v n m w = (slot owner : ℕ) → v.peeked ≡ Some (slot, owner)
    → let t = ticket (generation_in a) slot
    in (n ≡ a → (w ≡ reclaiming v t owner) × (HasReclaimed v t → ⊥)) × (n ≢ a → w ≡ v)
Reclaims (reads k) v n m w = Unit {0}
Reclaims (writes k x) v n m w = Unit {0}

-- A segment was counted, and its words have joined.
abbrev pub Grows : Tells View
Grows (compares k a b) v n m w = (w ≡ v) × (n ≡ a → (m.count ≡ keys) × (m.first ≡ 65 + keys * a))
Grows (reads k) v n m w = Unit {0}
Grows (writes k x) v n m w = Unit {0}
