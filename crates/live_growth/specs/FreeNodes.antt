-- Nodes that a seat may use again.
use Rattle.std.specs.Prelude.{◌≡◌, ◌≢◌, ℕ, ◌≤◌}
use Rattle.node_base.specs.declared.base_node.NodeType.{NodeType}
use Rattle.node_base.specs.declared.base_node.NodeType.TheVariants.{N4, N16, N48, N256}
use Rattle.live_nodes.specs.Seats.{SeatView}
use Rattle.live_nodes.specs.Views.{View}
use Rattle.live_reads.specs.Paths.{Sights}
use Rattle.live_growth.specs.declared.free_nodes.FreeNodes.{FreeNodes}

-- This names a node of that form, which the seat has met.
pub record IsSpare (v : SeatView View) (form : NodeType) (name : ℕ) : Type 0 where
  pub sighted : Sights v name
  pub in_form : sighted.spot.shape.form ≡ form

-- the name that is kept for a form
abbrev pub slot_of : FreeNodes → NodeType → ℕ
slot_of s N4 = s.n4
slot_of s N16 = s.n16
slot_of s N48 = s.n48
slot_of s N256 = s.n256

abbrev pub with_slot : FreeNodes → NodeType → ℕ → FreeNodes
with_slot s N4 n = record s { n4 = n }
with_slot s N16 n = record s { n16 = n }
with_slot s N48 n = record s { n48 = n }
with_slot s N256 n = record s { n256 = n }

-- Each name that is kept for a form is of such a node, the second one of the smallest form, and the further one of a node of any
-- form. 0 names none.
abbrev pub HasFreeNodes : SeatView View → FreeNodes → Type 0
HasFreeNodes v s = ((form : NodeType) → 1 ≤ slot_of s form → IsSpare v form (slot_of s form)) × (1 ≤ s.second → IsSpare v N4 s.second)
    × (1 ≤ s.more → Sights v s.more)

-- This name isn't kept.
abbrev pub Lacks : FreeNodes → ℕ → Type 0
Lacks s name = ((form : NodeType) → slot_of s form ≢ name) × (s.second ≢ name) × (s.more ≢ name)

-- What is kept in s by another name than this is kept in t.
abbrev pub KeepsOthers : FreeNodes → FreeNodes → ℕ → Type 0
KeepsOthers s t name = ((form : NodeType) → slot_of s form ≢ name → slot_of t form ≡ slot_of s form) × (s.second ≢ name → t.second ≡ s.second)
    × (s.more ≢ name → t.more ≡ s.more)
