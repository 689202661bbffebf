-- THE RULE of hazards and slots: what the words are, by what each seat knows.
use Rattle.std.specs.Prelude.{◌≡◌, ◌≢◌, ℕ, ◌+◌, ◌*◌, ◌<◌, ◌≤◌, true, List, length, Some}
use mathlib.Core.Option.{some}
use lib.ListN.{get_elem?}
use Rattle.word_book.specs.Book.{State}
use Rattle.word_segments.specs.Segments.{keys}
use Rattle.word_hazards.specs.Views.{slot_of, generation_of, In, Claim, View, HasLent, HasIssued, HasReclaimed}
use Rattle.word_hazards.specs.Steps.{state_key, owner_key, claimed_in, present_in, retired_in, free_in}

-- the word with this key is there, and its number is such
pub record Holds (words : List ℕ) (key : ℕ) (P : ℕ → Type 0) : Type 0 where
  pub number : ℕ
  pub is : get_elem? words key ≡ some number
  pub so : P number

abbrev pub AreGrown : List ℕ → Type 0
AreGrown words = Holds words 64 (λ segments. length words ≡ 65 + keys * segments)

abbrev pub IsHazard : List ℕ → View → ℕ → Type 0
IsHazard words v k = (k < 64) × (get_elem? words k ≡ some v.announced) × (1 ≤ v.announced)

abbrev pub HasState : List ℕ → ℕ → (ℕ → Type 0) → Type 0
HasState words t P = Holds words (state_key (slot_of t)) P

-- the ticket is issued, and nobody has reclaimed its owner
abbrev pub IsHeld : List ℕ → ℕ → Type 0
IsHeld words t = HasState words t (λ n. (present_in (generation_of t) ≤ n) × (n < free_in (generation_of t + 1)))

-- it was retired
abbrev pub IsRetired : List ℕ → ℕ → Type 0
IsRetired words t = HasState words t (λ n. retired_in (generation_of t) ≤ n)

-- its slot is another ticket's for good
abbrev pub IsReclaimed : List ℕ → ℕ → Type 0
IsReclaimed words t = HasState words t (λ n. free_in (generation_of t + 1) ≤ n)

-- It was issued, or that and retired. Until its slot is free again, its owner is there.
abbrev pub IsOwned : (ℕ → ℕ) → List ℕ → ℕ → ℕ → Type 0
IsOwned least words t owner = HasState words t (λ n. (least (generation_of t) ≤ n)
    × (n < free_in (generation_of t + 1) → get_elem? words (owner_key (slot_of t)) ≡ some owner))

abbrev pub IsClaim : List ℕ → Claim → Type 0
IsClaim words c = (get_elem? words (state_key c.slot) ≡ some (claimed_in c.generation))
    × ((owner : ℕ) → c.owner ≡ Some owner → get_elem? words (owner_key c.slot) ≡ some owner)

-- Of what the first of two seats has scanned: where the second has a ticket lent, that was found.
abbrev pub Scanned : View → View → Type 0
Scanned v w = (t k : ℕ) → In t v.retired → w.hazard ≡ Some k → k < v.scanned → HasLent w t → In (t + 2) v.found

abbrev pub Agree : View → View → Type 0
Agree v w = (t o p : ℕ) → HasIssued v t o → HasIssued w t p → o ≡ p

-- what a seat knows of slots
pub record AreSlots (words : List ℕ) (v : View) : Type 0 where
  pub lent : (t : ℕ) → HasLent v t → IsHeld words t
  pub issued : (t owner : ℕ) → HasIssued v t owner → IsOwned present_in words t owner
  pub claim : (c : Claim) → v.claim ≡ Some c → IsClaim words c
  pub retired : (t : ℕ) → In t v.retired → IsRetired words t
  pub peeked : (slot owner t : ℕ) → v.peeked ≡ Some (slot, owner) → In t v.retired → slot_of t ≡ slot → IsOwned retired_in words t owner
  pub reclaimed : (t : ℕ) → HasReclaimed v t → IsReclaimed words t

-- what a seat knows
pub record IsSeat (words : List ℕ) (v : View) : Type 0 where
  pub hazard : (k : ℕ) → v.hazard ≡ Some k → IsHazard words v k
  pub settled : v.lent ≡ true → (k : ℕ) × (v.hazard ≡ Some k)
  pub slots : AreSlots words v
  pub scanned : Scanned v v
  pub agree : Agree v v

-- what two seats know
pub record AreApart (v w : View) : Type 0 where
  pub hazards : (k : ℕ) → v.hazard ≡ Some k → w.hazard ≡ Some k → ⊥
  pub scanned : Scanned v w
  pub agree : Agree v w
  pub claims : (c d : Claim) → v.claim ≡ Some c → w.claim ≡ Some d → c.slot ≡ d.slot → ⊥
  pub reclaimed : (t : ℕ) → HasReclaimed v t → HasReclaimed w t → ⊥

pub record AreHazards (s : State View) : Type 0 where
  pub grown : AreGrown s.words
  pub seats : (i : ℕ) (v : View) → get_elem? s.views i ≡ some v → IsSeat s.words v
  pub apart : (i j : ℕ) (v w : View) → get_elem? s.views i ≡ some v → get_elem? s.views j ≡ some w → i ≢ j → AreApart v w

-- TWO SEATS MEET, and learn nothing that they keep. What one has lent neither has reclaimed. One ticket has one owner, and
-- one of the seats at most has reclaimed that.
pub record AreMet (v w : View) : Type 0 where
  pub lent : (t : ℕ) → HasLent v t → HasReclaimed w t → ⊥
  pub own : (t : ℕ) → HasLent v t → HasReclaimed v t → ⊥
  pub agree : Agree v w
  pub alone : Agree v v
  pub once : (t : ℕ) → HasReclaimed v t → HasReclaimed w t → ⊥

abbrev pub Meet : View → View → View → View → Type 0
Meet v w v' w' = (v' ≡ v) × (w' ≡ w) × AreMet v w
