-- The pairs of a range are removed by parts: those of one leaf at once.
use Rattle.std.specs.Prelude.{◌≡◌, ℕ, ◌+◌, true, [], ◌∷◌, Some, None}
use Rattle.spec_map.specs.Map.{Pairs}
use Rattle.live_nodes.specs.Known.{Known}
use Rattle.live_pool.specs.Pops.{HasPopped}

-- Pairs with keys from `low` on and below `high` were popped one after the other, each of the keys behind the one before.
abbrev pub HavePopped : ℕ → ℕ → Pairs ℕ → Known → Known → Type 0
HavePopped low high [] k n = n ≡ k
HavePopped low high (p ∷ ps) k n = (m : Known) × HasPopped true low high k (Some p) m × HavePopped (p.0 + 1) high ps m n

-- A part was removed, or there is none.
abbrev pub HasTakenPart : ℕ → ℕ → Pairs ℕ → Known → Known → Type 0
HasTakenPart low high [] k n = HasPopped true low high k None n
HasTakenPart low high (p ∷ ps) k n = HavePopped low high (p ∷ ps) k n

-- the key behind the last one, if there is one
abbrev pub behind : ℕ → Pairs ℕ → ℕ
behind low [] = low
behind low (p ∷ ps) = behind (p.0 + 1) ps

-- These pairs were handed on in their order. `step` is of a call that gets a pair.
abbrev pub HaveHandedOn : {F : Type 0} → (F → ℕ × ℕ → F → Type 0) → Pairs ℕ → F → F → Type 0
HaveHandedOn step [] f g = g ≡ f
HaveHandedOn {F} step (p ∷ ps) f g = (h : F) × step f p h × HaveHandedOn step ps h g
