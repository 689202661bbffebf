-- WHAT THE CODES OF A MAP OF OWNERS MEAN, and what is written with them.
use Rattle.std.specs.Prelude.{◌≡◌, ℕ, ℤ, pos, Option, Some, None}
use Rattle.live_growth.specs.declared.map.Refusal.{Refusal}
use Rattle.live_growth.specs.declared.map.Refusal.TheVariants as refusals
use Rattle.live_owners.specs.declared.handle.Lent.{Lent as Loan}
use Rattle.live_owners.specs.declared.handle.Previous.{Previous}
use Rattle.congee_live_c.specs.Answer.{oom, busy, oom_kept, busy_kept}
use Rattle.congee_live_c.specs.declared.owners.Lent.{Lent}

-- a ticket, and its owner that the handle has lent
abbrev pub lent_of : Lent → Loan
lent_of l = record { ticket = l.ticket; owner = l.owner }

-- a ticket that left the map, with its owner that the handle has lent
abbrev pub previous_of : Lent → Previous
previous_of l = record { ticket = l.ticket; owner = Some l.owner }

-- one that another handle had retired before
abbrev pub retired_of : Lent → Previous
retired_of l = record { ticket = l.ticket; owner = None }

-- A TICKET LEFT THE MAP, or none did: what holds of the one that is written
pub record IfTaken (code : ℤ) (written : Lent) (Holds : Option Previous → Type 0) : Type 0 where
  pub lent : code ≡ pos 1 → Holds (Some (previous_of written))
  pub retired : code ≡ pos 2 → Holds (Some (retired_of written))
  pub unlent : code ≡ pos 2 → written.owner ≡ 0
  pub none : code ≡ pos 0 → Holds None

-- AN OWNER WAS REFUSED: what holds of the reason, and of what the caller has again
pub record IfRefused (code : ℤ) (owner : ℕ) (Holds : Refusal → Option ℕ → Type 0) : Type 0 where
  pub oom : code ≡ oom → Holds refusals.OutOfMemory (Some owner)
  pub busy : code ≡ busy → Holds refusals.Busy (Some owner)
  pub oom_kept : code ≡ oom_kept → Holds refusals.OutOfMemory None
  pub busy_kept : code ≡ busy_kept → Holds refusals.Busy None
