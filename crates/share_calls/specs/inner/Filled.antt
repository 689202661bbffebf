-- Slots that are filled.
use Rattle.std.specs.Prelude.{◌≡◌, ℕ, List, All, length, map, Option, Some}

-- there are so many, each with what is empty
abbrev pub Filled : {S : Type 0} → (S → Type 0) → ℕ → List (Option S) → Type 0
Filled {S} Empty n slots = (parts : List S) × (slots ≡ map (λ (part : S). Some part) parts) × (length parts ≡ n) × All Empty parts
