-- What a handle has beside its seat.
use Rattle.std.specs.Prelude.{◌≡◌, ℕ, ◌<◌, ◌≤◌, Bool, true, List, Some}
use Rattle.word_book.specs.Book.{Book, Name, name}
use Rattle.word_hazards.specs.Views.{In, View}
use Rattle.word_hazards.specs.Steps.{state_key, owner_key, link_key}

-- the numbers that a scan found, those alone that announce a ticket
abbrev pub AreFound : View → List ℕ → Type 0
AreFound v numbers = (x : ℕ) → 2 ≤ x → In x v.found → In x numbers

-- these tickets are retired
abbrev pub AreRetired : View → List ℕ → Type 0
AreRetired v tickets = (t : ℕ) → In t tickets → In t v.retired

-- all hazards were read
abbrev pub HasScanned : View → List ℕ → Type 0
HasScanned v numbers = (64 ≤ v.scanned) × AreFound v numbers

-- A handle is this hazard's, its row has retired tickets, and what it found is of its last scan, if that is current.
abbrev pub IsHandle : View → ℕ → List ℕ → Bool → List ℕ → Type 0
IsHandle v hazard row current numbers =
    (v.hazard ≡ Some hazard) × (hazard < 64) × AreRetired v row × (current ≡ true → HasScanned v numbers)

-- THE WORDS of a slot
abbrev pub AreOf : Book → ℕ → Name → Name → Name → Type 0
AreOf book slot state owner link =
    (state ≡ name (state_key slot) book) × (owner ≡ name (owner_key slot) book) × (link ≡ name (link_key slot) book)

-- What a handle keeps in its row is as it was.
pub record LeavesRow (v w : View) : Type 0 where
  pub hazard : w.hazard ≡ v.hazard
  pub retired : w.retired ≡ v.retired
  pub scanned : w.scanned ≡ v.scanned
  pub found : w.found ≡ v.found

-- Only what it knows of retired tickets and of hazards is another.
abbrev pub Looks : View → View → Type 0
Looks v w = w ≡ record v { retired = w.retired; scanned = w.scanned; found = w.found; peeked = w.peeked }
