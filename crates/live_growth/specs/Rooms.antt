-- A seat's room for new nodes, and the nodes that it makes there.
use Rattle.std.specs.Prelude.{◌≡◌, ℕ, ◌≤◌, [], ◌∷◌, replicate}
use Rattle.node_base.specs.declared.base_node.NodeType.{NodeType}
use Rattle.live_nodes.specs.Seats.{Place, room_at, SeatView, IsIn}
use Rattle.live_nodes.specs.Levels.{Spot, name_of, place_at}
use Rattle.live_nodes.specs.Views.{View, with_met}

-- Its room begins with that word, and has at least so many, which are 0.
pub record HasRoom (v : SeatView View) (start left : ℕ) : Type 0 where
  pub count : ℕ
  pub enough : left ≤ count
  pub is : v.room ≡ room_at start (replicate count 0)

-- An obsolete node of this form was made of the room, and has this name.
pub record HasMade (v w : SeatView View) (form : NodeType) (name : ℕ) : Type 0 where
  pub spot : Spot
  pub in_form : spot.shape.form ≡ form
  pub client : w.client ≡ with_met v.client (spot ∷ v.client.met)
  pub places : w.places ≡ place_at spot ∷ v.places
  pub holds : w.holds ≡ v.holds
  pub named : name ≡ name_of spot.shape

-- It has nothing to itself but its room. Nodes may have come to those that it has met, and it has seen no more.
pub record HasGrown (v w : SeatView View) : Type 0 where
  pub own : w.client.own ≡ []
  pub holds : w.holds ≡ []
  pub places : (p : Place) → IsIn p v.places → IsIn p w.places
  pub met : (a : Spot) → IsIn a v.client.met → IsIn a w.client.met
  pub seen : w.client.seen ≡ v.client.seen
