-- The pairs of a leaf, from the last one on.
use Rattle.std.specs.Prelude.{◌≡◌, ℕ, ◌<◌, ◌≤◌, Option, Some, None}
use Rattle.spec_map.specs.Map.{lookup}
use Rattle.spec_node.specs.TableNode.{TableNode}
use Rattle.live_layout.specs.Encodes.{payload_of}

-- the leaf's last payload up to a byte, from another one on
abbrev pub IsPrevious : TableNode ℕ → ℕ → ℕ → Option (ℕ × ℕ) → Type 0
IsPrevious n from first None = (b : ℕ) → first ≤ b → b ≤ from → lookup n.children b ≡ None
IsPrevious n from first (Some e) = (first ≤ e.0) × (e.0 ≤ from) × (payload_of (lookup n.children e.0) ≡ Some e.1)
    × ((b : ℕ) → e.0 < b → b ≤ from → lookup n.children b ≡ None)
