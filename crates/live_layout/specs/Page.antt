-- The pairs of a leaf, as they are listed.
use Rattle.std.specs.Prelude.{◌≡◌, ℕ, ◌+◌, ◌<◌, ◌≤◌, List, map, Option, Some, None}
use Rattle.spec_map.specs.Map.{Pairs, lookup, Rises}
use Rattle.spec_node.specs.TableNode.{TableNode}
use Rattle.live_layout.specs.Encodes.{payload_of}

-- the leaf's next payload from a byte on, up to another
abbrev pub IsNext : TableNode ℕ → ℕ → ℕ → Option (ℕ × ℕ) → Type 0
IsNext n from last None = (b : ℕ) → from ≤ b → b ≤ last → lookup n.children b ≡ None
IsNext n from last (Some e) = (from ≤ e.0) × (e.0 ≤ last) × (payload_of (lookup n.children e.0) ≡ Some e.1)
    × ((b : ℕ) → from ≤ b → b < e.0 → lookup n.children b ≡ None)

-- THE PAIRS OF A LEAF from a byte on and below another, ascending. Its keys begin at `base`.
pub record AreListed (n : TableNode ℕ) (base from to : ℕ) (ps : Pairs ℕ) : Type 0 where
  pub ascend : Rises (base + from) (base + to) ps
  pub value : (b : ℕ) → from ≤ b → b < to → lookup ps (base + b) ≡ payload_of (lookup n.children b)

-- the pairs that entries have
abbrev pub pairs_of : {P : Type 0} → (P → ℕ × ℕ) → List P → Pairs ℕ
pairs_of pair entries = map pair entries
