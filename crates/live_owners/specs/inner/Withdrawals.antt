-- What a withdrawal leaves known.
use Rattle.std.specs.Prelude.{◌≡◌, ℕ, Option, None, Some}
use Rattle.word_hazards.specs.Views.{View}
use Rattle.live_owners.specs.Owners.{ComesBack, NoneComesBack}

-- the owner of a ticket was taken back, or comes back later
abbrev pub IsWithdrawn : View → View → ℕ → ℕ → Option ℕ → Type 0
IsWithdrawn v w t owner None = NoneComesBack v w
IsWithdrawn v w t owner (Some back) = (back ≡ owner) × ComesBack v w t owner
