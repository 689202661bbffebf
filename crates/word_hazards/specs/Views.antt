-- WHAT A SEAT KNOWS of tickets and their owners, and what it has lent.
--
-- A ticket is a slot's index, and the generation: how often the slot was used before. An owner is a number, which is put into the
-- slot as its ticket is issued.
use Rattle.std.specs.Prelude.{◌≡◌, ◌⊎◌, ℕ, ◌+◌, ◌*◌, ◌/◌, ◌%◌, Bool, true, false, List, [], ◌∷◌, Option, None}

abbrev pub slot_of : ℕ → ℕ
slot_of t = t % 4294967296

abbrev pub generation_of : ℕ → ℕ
generation_of t = t / 4294967296

abbrev pub ticket : ℕ → ℕ → ℕ
ticket generation slot = generation * 4294967296 + slot

-- is in the list
abbrev pub In : {A : Type 0} → A → List A → Type 0
In a [] = ⊥
In a (x ∷ xs) = (x ≡ a) ⊎ In a xs

-- A slot that the seat has claimed, to issue a ticket of this generation, and the owner that it has put there
pub record Claim : Type 0 where
  pub slot : ℕ
  pub generation : ℕ
  pub owner : Option ℕ

pub record View : Type 0 where
  -- the hazard word that the seat alone writes, the number there, and whether the ticket that this announces is lent to the seat
  pub hazard : Option ℕ
  pub announced : ℕ
  pub lent : Bool
  -- tickets and the owners that they were issued for
  pub issued : List (ℕ × ℕ)
  pub claim : Option Claim
  -- tickets that nobody can get lent any more. Of those, how many hazards were read since the last one was retired, what was
  -- found there, and a slot whose owner was read
  pub retired : List ℕ
  pub scanned : ℕ
  pub found : List ℕ
  pub peeked : Option (ℕ × ℕ)
  -- tickets whose owner the seat has reclaimed
  pub reclaimed : List ℕ

abbrev pub nobody : View
nobody = record {
  hazard = None;
  announced = 0;
  lent = false;
  issued = [];
  claim = None;
  retired = [];
  scanned = 0;
  found = [];
  peeked = None;
  reclaimed = [];
}

-- THE SEAT HAS THE TICKET LENT.
abbrev pub HasLent : View → ℕ → Type 0
HasLent v t = (v.lent ≡ true) × (v.announced ≡ t + 2)

-- The ticket was issued for this owner.
abbrev pub HasIssued : View → ℕ → ℕ → Type 0
HasIssued v t owner = In (t, owner) v.issued

-- THE SEAT HAS RECLAIMED THE OWNER that the ticket was issued for.
abbrev pub HasReclaimed : View → ℕ → Type 0
HasReclaimed v t = In t v.reclaimed
