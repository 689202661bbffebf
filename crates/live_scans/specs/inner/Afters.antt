-- The least of some numbers.
use Rattle.std.specs.Prelude.{◌≡◌, ℕ, ◌<◌, ◌≤◌, Option, Some, None}

-- Of the numbers at these places it is the least that is at least `least`, with its place.
abbrev pub IsLeast : (ℕ → ℕ) → ℕ → ℕ → ℕ → Option (ℕ × ℕ) → Type 0
IsLeast f from to least None = (k : ℕ) → from ≤ k → k < to → f k < least
IsLeast f from to least (Some e) = (from ≤ e.1) × (e.1 < to) × (f e.1 ≡ e.0) × (least ≤ e.0) × ((k : ℕ) → from ≤ k → k < to → least ≤ f k → e.0 ≤ f k)
