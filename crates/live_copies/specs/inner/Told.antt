-- What a seat knows of all keys that begin like a node, by the nodes that it has locked.
use Rattle.std.specs.Prelude.{◌≡◌, ℕ, zero, suc, ◌+◌, ◌*◌, ◌<◌, ◌≤◌, ◌^◌, List, length, Option, Some, None}
use Rattle.spec_map.specs.Map.{Pairs, lookup, Rises}
use Rattle.spec_node.specs.TableNode.{TableNode, Child}
use Rattle.spec_node.specs.declared.child.Child.TheVariants.{Payload, Node}
use Rattle.live_nodes.specs.Nodes.{Content}
use Rattle.live_nodes.specs.Seats.{IsIn}
use Rattle.live_layout.specs.Encodes.{Encodes}
use Rattle.live_nodes.specs.Levels.{digit, Shape, name_of, Covers, Spot}
use Rattle.live_nodes.specs.Views.{Own, locked}

-- There is no pair with a key of this node that has this byte.
abbrev pub HasNoneUnder : Spot → Pairs ℕ → ℕ → Type 0
HasNoneUnder a m b = (k : ℕ) → Covers a.shape k → digit a.shape.height k ≡ b → lookup m k ≡ None

-- Of the keys of this node that have this byte, a node below with that name has the pairs, and beside it there are none.
pub record TellsBelow (below : Spot → Pairs ℕ → Type 0) (a : Spot) (m : Pairs ℕ) (b name : ℕ) : Type 0 where
  pub spot : Spot
  pub named : name ≡ name_of spot.shape
  pub lower : spot.shape.height < a.shape.height
  pub key : ℕ
  pub above : Covers a.shape key
  pub byte_is : digit a.shape.height key ≡ b
  pub covers : Covers spot.shape key
  pub tells : below spot m
  pub beside : (k : ℕ) → Covers a.shape k → digit a.shape.height k ≡ b → (Covers spot.shape k → ⊥) → lookup m k ≡ None

-- The pairs with keys of this node that have this byte, by what it has there.
abbrev pub TellsUnder : (Spot → Pairs ℕ → Type 0) → Spot → Pairs ℕ → ℕ → Option (Child ℕ) → Type 0
TellsUnder below a m b None = HasNoneUnder a m b
TellsUnder below a m b (Some (Payload x)) = (a.shape.height ≡ 1) × (lookup m (256 * a.shape.top + b) ≡ Some x)
TellsUnder below a m b (Some (Node s)) = TellsBelow below a m b s

-- The same by a number that was noted of it: the child's name, or 0 where there is none.
abbrev pub TellsNoted : (Spot → Pairs ℕ → Type 0) → Spot → Pairs ℕ → ℕ → ℕ → Type 0
TellsNoted below a m b name = (name ≡ 0 → HasNoneUnder a m b) × (1 ≤ name → TellsBelow below a m b name)

-- An inner node has the child that was noted.
abbrev pub IsNoted : Option (Child ℕ) → ℕ → Type 0
IsNoted None name = name ≡ 0
IsNoted (Some (Payload x)) name = ⊥
IsNoted (Some (Node s)) name = (1 ≤ name) × (s ≡ name)

-- These are nodes of that form and height with this content.
pub record IsContent (c : Content) (a : Spot) (n : TableNode ℕ) : Type 0 where
  pub encodes : Encodes c n
  pub in_form : n.form ≡ a.shape.form
  pub deep : length n.prefix + a.shape.height ≡ 8

module _ (own : List Own) where
  -- The seat has the node locked, and these are the pairs under each byte.
  pub record IsTold (below : Spot → Pairs ℕ → Type 0) (a : Spot) (m : Pairs ℕ) : Type 0 where
    pub content : Content
    pub held : IsIn (locked a content) own
    pub under : (n : TableNode ℕ) → IsContent content a n → (b : ℕ) → b < 256 → TellsUnder below a m b (lookup n.children b)

  -- THE LOCKED NODES TELL the pairs at all keys that begin like this one, which has so many levels or fewer.
  abbrev pub Tells : ℕ → Spot → Pairs ℕ → Type 0
  Tells zero a m = ⊥
  Tells (suc n) a m = IsTold (Tells n) a m

-- the keys of a node, from its first one on and below its end
abbrev pub first_of : Shape → ℕ
first_of s = s.top * 256 ^ s.height

abbrev pub end_of : Shape → ℕ
end_of s = (s.top + 1) * 256 ^ s.height

-- THE PAIRS OF A NODE: they ascend among its keys, and the locked nodes tell them.
pub record HasPairs (own : List Own) (a : Spot) (m : Pairs ℕ) : Type 0 where
  pub rises : Rises (first_of a.shape) (end_of a.shape) m
  pub tells : Tells own a.shape.height a m
