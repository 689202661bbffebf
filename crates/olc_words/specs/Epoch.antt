-- Pins of calls in flight, and when the slot of a retired node may be reclaimed.
use Rattle.std.specs.Prelude.{◌≡◌, ◌≢◌, ℕ, ◌<◌, Bool, false, List, Option, Some, None}
use Rattle.std.specs.BTreeMap.{is_at}
use Rattle.std.specs.Map.{lookup}
use Rattle.std.specs.Ordering.{nat_cmp}
use Rattle.olc_words.specs.declared.epoch.Seat.{Seat}
use Rattle.olc_words.specs.declared.epoch.Life.{Life}
use Rattle.olc_words.specs.declared.epoch.Life.TheVariants.{InUse, Retired}

-- the entry at a number
abbrev pub entry_at : {X : Type 0} → List (ℕ × X) → ℕ → Option X
entry_at entries number = lookup (is_at (nat_cmp number)) entries

-- the seats by their numbers, the admitted slots, and how many nodes were retired
pub record PinsView : Type 0 where
  pub seats : List (ℕ × Seat)
  pub slots : List (ℕ × Life)
  pub count : ℕ

abbrev pub seated_in : Option Seat → Bool
seated_in None = false
seated_in (Some seat) = seat.seated

abbrev pub pin_in : Option Seat → Option ℕ
pin_in None = None
pin_in (Some seat) = seat.pin

-- whether room is kept for a number
abbrev pub is_seated : PinsView → ℕ → Bool
is_seated pins id = seated_in (entry_at pins.seats id)

-- the pin of a number in flight
abbrev pub pin_of : PinsView → ℕ → Option ℕ
pin_of pins id = pin_in (entry_at pins.seats id)

-- whether a slot has a node, and whether that is retired; nothing of a slot that isn't admitted
abbrev pub life_of : PinsView → ℕ → Option Life
life_of pins slot = entry_at pins.slots slot

-- one number has this seat and this pin, and all else is as it was
pub record ChangesSeat (old new : PinsView) (id : ℕ) (seated : Bool) (pin : Option ℕ) : Type 0 where
  pub seat : is_seated new id ≡ seated
  pub pinned : pin_of new id ≡ pin
  pub other_seats : (other : ℕ) → other ≢ id → is_seated new other ≡ is_seated old other
  pub other_pins : (other : ℕ) → other ≢ id → pin_of new other ≡ pin_of old other
  pub slots : new.slots ≡ old.slots
  pub count : new.count ≡ old.count

-- one slot has this life, and all other slots and all seats are as they were
pub record ChangesLife (old new : PinsView) (slot : ℕ) (life : Option Life) : Type 0 where
  pub here : life_of new slot ≡ life
  pub others : (other : ℕ) → other ≢ slot → life_of new other ≡ life_of old other
  pub seats : new.seats ≡ old.seats

-- what a slot is once it was admitted: as it was, or in use
abbrev pub admitted : Option Life → Life
admitted None = InUse
admitted (Some life) = life

-- the call of this seat, if one is in flight, started after the retirement with this stamp
abbrev pub StartedAfter : ℕ → Option ℕ → Type 0
StartedAfter stamp None = Unit {0}
StartedAfter stamp (Some pin) = stamp < pin

-- every call in flight started after that retirement
abbrev pub AllStartedAfter : ℕ → PinsView → Type 0
AllStartedAfter stamp pins = (id : ℕ) → StartedAfter stamp (pin_of pins id)

-- The slot is that of a retired node whose retirement was counted, and every call in flight started after it.
pub record IsReclaimable (pins : PinsView) (slot : ℕ) : Type 0 where
  pub stamp : ℕ
  pub retired : life_of pins slot ≡ Some (Retired (Some stamp))
  pub after : AllStartedAfter stamp pins
