-- Where a node is in the map: its height, and the bytes above it.
--
-- A leaf has height 1, and the root height 8. A child of a node is lower, by one or by more.
use Rattle.std.specs.Prelude.{◌≡◌, ℕ, zero, suc, ◌+◌, ◌-◌, ◌*◌, ◌/◌, ◌%◌, ◌≤◌}
use Rattle.node_base.specs.Form.{form_place}
use Rattle.node_base.specs.declared.base_node.NodeType.{NodeType}
use Rattle.live_nodes.specs.Seats.{Place, place}
use Rattle.live_layout.specs.Encodes.{words_of}

-- the key without so many of its lowest bytes
abbrev pub up : ℕ → ℕ → ℕ
up zero k = k
up (suc h) k = up h k / 256

-- the byte of a key by which a node of this height leads on
abbrev pub digit : ℕ → ℕ → ℕ
digit zero k = 0
digit (suc h) k = up h k % 256

-- What a node is: the key of its version word and its form, for good, and its height and the bytes above it as a number.
-- These change where it is used again.
pub record Shape : Type 0 where
  pub key : ℕ
  pub form : NodeType
  pub height : ℕ
  pub top : ℕ

-- the number that names it
abbrev pub name_of : Shape → ℕ
name_of s = 256 * s.key + form_place s.form

-- The node has keys that begin like this one.
abbrev pub Covers : Shape → ℕ → Type 0
Covers s k = up s.height k ≡ s.top

-- the bytes above a level that isn't below the node, which all its keys have
abbrev pub bytes_above : Shape → ℕ → ℕ
bytes_above s h = up (h - s.height) s.top

-- The node is on that level or below it, and those bytes are these.
abbrev pub IsBelow : Shape → ℕ → ℕ → Type 0
IsBelow s h t = (s.height ≤ h) × (bytes_above s h ≡ t)

-- a node, by its number among all nodes
pub record Spot : Type 0 where
  pub number : ℕ
  pub shape : Shape

abbrev pub spot : ℕ → Shape → Spot
spot k s = record { number = k; shape = s }

abbrev pub place_at : Spot → Place
place_at a = place a.number a.shape.key (words_of a.shape.form)
