-- The places of the machine's records, by number.
use Rattle.std.specs.Prelude.{◌≡◌, ◌≢◌, ℕ, List, Option}
use Rattle.olc_words.specs.Epoch.{entry_at}
use Rattle.olc_state.specs.declared.stage.Record.{Record}

-- the place of one number is so now, and all others are as they were
pub record ChangesPlace {P : Type 0} (old new : List (ℕ × Option (Record P))) (id : ℕ)
    (place : Option (Option (Record P))) : Type 0 where
  pub here : entry_at new id ≡ place
  pub others : (other : ℕ) → other ≢ id → entry_at new other ≡ entry_at old other
