-- What a contract sees of a node in a table.
use Rattle.std.specs.Prelude.{◌≡◌, ℕ, ◌<◌, List, length, Option, Some, None}
use Rattle.std.specs.Borrow.{Bor}
use Rattle.node_base.specs.declared.base_node.NodeType.{NodeType}
use Rattle.spec_node.specs.declared.child.Child.{Child as ChildOf}
use Rattle.spec_node.specs.declared.child.Child.TheVariants.{Payload, Node}
use Rattle.spec_node.specs.declared.child.ChildRef.{ChildRef}
use Rattle.spec_node.specs.declared.child.ChildRef.TheVariants as borrowed

-- a child: a payload, or the slot of a node
abbrev pub Child : Type 0 → Type 0
Child P = ChildOf P ℕ

-- its form, the bytes from the root down to it, and its children by their bytes, ascending; an inner node has a C in the
-- place of each
pub record TableNodeOf (P C : Type 0) : Type 0 where
  pub form : NodeType
  pub prefix : List ℕ
  pub children : List (ℕ × ChildOf P C)

-- a node whose children are payloads or the slots of others
abbrev pub TableNode : Type 0 → Type 0
TableNode P = TableNodeOf P ℕ

module _ {P C : Type 0} where
  -- a child that a node with these bytes may have
  abbrev pub MayHave : List ℕ → ChildOf P C → Type 0
  MayHave p (Payload v) = length p ≡ 7
  MayHave p (Node c) = length p < 7

  -- the child that was looked at
  abbrev pub seen : Option (ChildRef P C) → Option (ChildOf P C)
  seen None = None
  seen (Some (borrowed.Payload v)) = Some (Payload v.now)
  seen (Some (borrowed.Node c)) = Some (Node c)

  -- the same child
  abbrev pub looked_at : ChildRef P C → ChildOf P C
  looked_at (borrowed.Payload v) = Payload v.now
  looked_at (borrowed.Node c) = Node c

  -- the same child, where what an inner node has is borrowed
  abbrev pub looked_at_ref : ChildRef P (Bor C) → ChildOf P C
  looked_at_ref (borrowed.Payload v) = Payload v.now
  looked_at_ref (borrowed.Node c) = Node c.now
