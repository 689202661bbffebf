-- The children of a node in the order of their bytes, upwards (true) or downwards.
use Rattle.std.specs.Prelude.{◌≡◌, ℕ, ◌<◌, ◌≤◌, Bool, true, false, List, Option, Some, None}
use Rattle.spec_map.specs.Map.{lookup}
use Rattle.spec_node.specs.TableNode.{Child}
use Rattle.live_layout.specs.Encodes.{IsBelow}

-- the second isn't before the first
abbrev pub IsFrom : Bool → ℕ → ℕ → Type 0
IsFrom true a b = a ≤ b
IsFrom false a b = b ≤ a

-- the first is before the second
abbrev pub IsBefore : Bool → ℕ → ℕ → Type 0
IsBefore true a b = a < b
IsBefore false a b = b < a

-- THE NEAREST of words from a byte on: that byte's word, and none is nearer
abbrev pub IsNearest : Bool → List (ℕ × ℕ) → ℕ → Option (ℕ × ℕ) → Type 0
IsNearest up es from None = (k : ℕ) → IsFrom up from k → lookup es k ≡ None
IsNearest up es from (Some e) = IsFrom up from e.0 × (lookup es e.0 ≡ Some e.1)
    × ((k : ℕ) → IsFrom up from k → IsBefore up k e.0 → lookup es k ≡ None)

-- the same of children, by their words
abbrev pub HasNearest : Bool → List (ℕ × Child ℕ) → ℕ → Option (ℕ × ℕ) → Type 0
HasNearest up fs from None = (k : ℕ) → IsFrom up from k → lookup fs k ≡ None
HasNearest up fs from (Some e) = IsFrom up from e.0 × IsBelow (lookup fs e.0) (Some e.1)
    × ((k : ℕ) → IsFrom up from k → IsBefore up k e.0 → lookup fs k ≡ None)
