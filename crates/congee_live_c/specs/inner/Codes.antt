-- The code of an answer, and what is written.
use Rattle.std.specs.Prelude.{ℕ, ℤ, pos, Option, Some, None}
use Rattle.live_growth.specs.declared.map.Refusal.{Refusal}
use Rattle.live_growth.specs.declared.map.Refusal.TheVariants as refusals
use Rattle.live_owners.specs.declared.handle.Previous.{Previous}
use Rattle.congee_live_c.specs.Answer.{oom, busy, oom_kept, busy_kept}
use Rattle.congee_live_c.specs.declared.owners.Lent.{Lent}

-- of a ticket that left the map, or none
abbrev pub previous_code : Option ℕ → ℤ
previous_code (Some owner) = pos 1
previous_code None = pos 2

abbrev pub taken_code : Option Previous → ℤ
taken_code (Some p) = previous_code p.owner
taken_code None = pos 0

abbrev pub owner_or : Option ℕ → ℕ
owner_or (Some owner) = owner
owner_or None = 0

abbrev pub taken_written : Option Previous → Lent → Lent
taken_written (Some p) old = record { ticket = p.ticket; owner = owner_or p.owner }
taken_written None old = old

-- of a refusal
abbrev pub refusal_code : Refusal → Option ℕ → ℤ
refusal_code refusals.OutOfMemory (Some back) = oom
refusal_code refusals.OutOfMemory None = oom_kept
refusal_code refusals.Busy (Some back) = busy
refusal_code refusals.Busy None = busy_kept
