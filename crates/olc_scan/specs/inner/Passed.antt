-- Which keys a range passes over in the tree.
use Rattle.std.specs.Prelude.{◌≡◌, ℕ, ◌<◌, ◌≤◌, ◌^◌, List, Some, None}
use Rattle.spec_map.specs.Map.{lookup}
use Rattle.spec_olc.specs.Calls.{bytes_of}
use Rattle.olc_state.specs.inner.Tables.{Keeps}
use Rattle.olc_state.specs.inner.World.{NodeMap}

-- no key that is at `cursor` or above, at `low` or above, and below `high` is stored in the table
abbrev pub PassesNone : {M : Type 0} → NodeMap M → ℕ → ℕ → ℕ → Type 0
PassesNone {M} t cursor low high = (key : ℕ) (value : M) → key < 2 ^ 64 → cursor ≤ key → low ≤ key
    → key < high → Keeps t (bytes_of key) value → ⊥

-- `byte` is the first byte from `from` on that has a child, and `child` is that child
pub record IsFirstChild {C : Type 0} (from : ℕ) (es : List (ℕ × C)) (byte : ℕ) (child : C) : Type 0 where
  pub at_least : from ≤ byte
  pub here : lookup es byte ≡ Some child
  pub before : (z : ℕ) → from ≤ z → z < byte → lookup es z ≡ None
