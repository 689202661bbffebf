-- AN ITERATOR over the keys of a range, while others write. It reads pages, and gives their pairs one by one.
use Rattle.std.specs.Prelude.{◌≡◌, ◌⊎◌, ℕ, suc, ◌+◌, ◌-◌, Bool, true, false, [], ◌∷◌, reverse, Option, Some, None}
use Rattle.spec_map.specs.Map.{Pairs}
use Rattle.live_nodes.specs.Known.{Known}
use Rattle.live_scans.specs.Scans.{HasRead, HasBegun, Waits}

-- whether it goes upwards, what its guard knows, the pairs that it has read and not given yet, and the least and the greatest key
-- that it hasn't read
pub record Iterated : Type 0 where
  pub up : Bool
  pub known : Known
  pub page : Pairs ℕ
  pub unread : Option (ℕ × ℕ)

abbrev pub iterated : Bool → Known → Pairs ℕ → Option (ℕ × ℕ) → Iterated
iterated up k ps u = record { up = up; known = k; page = ps; unread = u }

-- THE KEYS from `low` on and below `high` were read by a guard that knew k: upwards (true) or downwards
abbrev pub HasPart : Bool → ℕ → ℕ → Pairs ℕ → Known → Known → Type 0
HasPart true low high ps k n = (seen : HasBegun k n) × HasRead true seen.start.seen n.seen low high ps
HasPart false low high ps k n = (seen : HasBegun k n) × HasRead false seen.start.seen n.seen low high (reverse ps)

-- A PAGE of the keys from `low` to `last` was read by a guard that waits, and knew k at first. What is unread then lies behind it.
abbrev pub HasTurned : Bool → ℕ → ℕ → Known → Pairs ℕ → Option (ℕ × ℕ) → Known → Type 0
HasTurned up low last k ps None n = Waits k (λ m. HasPart up low (last + 1) ps m n)
HasTurned true low last k ps (Some u) n = (u.1 ≡ last) × Waits k (λ m. HasPart true low u.0 ps m n)
HasTurned false low last k ps (Some u) n = (u.0 ≡ low) × Waits k (λ m. HasPart false (suc u.1) (last + 1) ps m n)

-- how many keys are unread at most
abbrev pub unread_keys : Option (ℕ × ℕ) → ℕ
unread_keys None = 0
unread_keys (Some u) = suc u.1 - u.0

-- IT GIVES the next pair of its page, or of the page behind, or none, where nothing is left.
abbrev pub Gives : {P : Type 0} → (ℕ × ℕ → P) → Iterated → Option P → Iterated → Type 0
Gives of_pair i (Some p) j = (i.up ≡ j.up) × ((q : ℕ × ℕ) × (p ≡ of_pair q)
    × ((i ≡ iterated j.up j.known (q ∷ j.page) j.unread)
    ⊎ ((u : ℕ × ℕ) × (i.page ≡ []) × (i.unread ≡ Some u) × HasTurned j.up u.0 u.1 i.known (q ∷ j.page) j.unread j.known)))
Gives of_pair i None j = (i.up ≡ j.up) × (j.page ≡ []) × (j.unread ≡ None)
    × ((i ≡ j) ⊎ ((u : ℕ × ℕ) × (i.page ≡ []) × (i.unread ≡ Some u) × HasTurned j.up u.0 u.1 i.known [] None j.known))
