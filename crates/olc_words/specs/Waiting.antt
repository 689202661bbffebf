-- The slots whose retirement was counted, oldest first.
use Rattle.std.specs.Prelude.{◌≡◌, ◌≢◌, ℕ, ◌+◌, ◌≤◌, Bool, true, false, List, [], ◌∷◌, ◌++◌, Option, Some, None, ◌⊎◌}
use Rattle.olc_words.specs.Epoch.{entry_at}
use Rattle.olc_words.specs.declared.epoch.Life.{Life}
use Rattle.olc_words.specs.declared.epoch.Life.TheVariants.{Retired}

-- the stamps ascend, from one number on and below another
abbrev pub Ascends : ℕ → List (ℕ × ℕ) → ℕ → Type 0
Ascends low [] high = low ≤ high
Ascends low (e ∷ es) high = (low ≤ e.0) × Ascends (e.0 + 1) es high

-- the slot is in the list, with this stamp
abbrev pub Waits : ℕ → ℕ → List (ℕ × ℕ) → Type 0
Waits stamp slot [] = ⊥
Waits stamp slot (e ∷ es) = ((e.0 ≡ stamp) × (e.1 ≡ slot)) ⊎ Waits stamp slot es

-- those that wait are retired with their stamps, the stamps ascend, and if `whole`, all such slots wait
pub record IsQueue (slots : List (ℕ × Life)) (count : ℕ) (waiting : List (ℕ × ℕ)) (whole : Bool) : Type 0 where
  pub ascends : Ascends 0 waiting count
  pub retired : (stamp slot : ℕ) → Waits stamp slot waiting → entry_at slots slot ≡ Some (Retired (Some stamp))
  pub all : whole ≡ true → (stamp slot : ℕ) → entry_at slots slot ≡ Some (Retired (Some stamp)) → Waits stamp slot waiting

-- what waits are those of other slots, as they were
pub record IsWithout (at : ℕ) (old new : List (ℕ × ℕ)) : Type 0 where
  pub ascends : (high : ℕ) → Ascends 0 old high → Ascends 0 new high
  pub from : (stamp slot : ℕ) → Waits stamp slot new → (slot ≢ at) × Waits stamp slot old
  pub to : (stamp slot : ℕ) → slot ≢ at → Waits stamp slot old → Waits stamp slot new

-- the slot waits behind the others; or there was no room, and they aren't all any more
abbrev pub IsListed : Bool → ℕ → ℕ → List (ℕ × ℕ) → List (ℕ × ℕ) → Bool → Type 0
IsListed whole stamp slot old new whole' = ((new ≡ old ++ (stamp, slot) ∷ []) × (whole' ≡ whole)) ⊎ ((new ≡ old) × (whole' ≡ false))

abbrev pub IsFirstWaiting : List (ℕ × ℕ) → Option (ℕ × ℕ) → Type 0
IsFirstWaiting [] first = first ≡ None
IsFirstWaiting (e ∷ es) first = first ≡ Some e
