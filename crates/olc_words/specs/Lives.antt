-- What is known of the slots, in a vector by slot.
use Rattle.std.specs.Prelude.{◌≡◌, ◌≢◌, ℕ, ◌+◌, List, [], ◌∷◌, Option, Some, None}
use Rattle.olc_words.specs.Epoch.{entry_at}
use Rattle.olc_words.specs.declared.epoch.Life.{Life}
use Rattle.olc_words.specs.declared.epoch.Life.TheVariants.{InUse, Retired}
use Rattle.olc_words.specs.declared.lives.Place.{Place}
use Rattle.olc_words.specs.declared.lives.Place.TheVariants.{Empty, Occupied, Counted, Uncounted}

-- nothing is known of a slot that isn't admitted
abbrev pub life_in : Place → Option Life
life_in Empty = None
life_in Occupied = Some InUse
life_in (Counted stamp) = Some (Retired (Some stamp))
life_in Uncounted = Some (Retired None)

-- with the life of a slot, where it has one, before the others
abbrev pub with_life : ℕ → Option Life → List (ℕ × Life) → List (ℕ × Life)
with_life slot None lives = lives
with_life slot (Some life) lives = (slot, life) ∷ lives

-- the lives at places whose slots begin with `first`
abbrev pub lives_from : ℕ → List Place → List (ℕ × Life)
lives_from first [] = []
lives_from first (place ∷ places) = with_life first (life_in place) (lives_from (first + 1) places)

-- one slot has this life, and all others are as they were
pub record SetsLife (old new : List (ℕ × Life)) (slot : ℕ) (life : Option Life) : Type 0 where
  pub here : entry_at new slot ≡ life
  pub others : (other : ℕ) → other ≢ slot → entry_at new other ≡ entry_at old other
