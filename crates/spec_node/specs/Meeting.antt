-- What a key meets at a node of a table.
use Rattle.std.specs.Prelude.{◌≡◌, ℕ, ◌<◌, List, length, Some, None}
use Rattle.std.specs.Borrow.{Bor}
use Rattle.spec_map.specs.Map.{lookup}
use Rattle.spec_node.specs.Key.{Begins, next_byte}
use Rattle.spec_node.specs.TableNode.{TableNodeOf}
use Rattle.spec_node.specs.declared.child.Child.TheVariants as children
use Rattle.spec_node.specs.declared.child.Meeting.{Meeting}
use Rattle.spec_node.specs.declared.child.Meeting.TheVariants.{Other, Leaf, Nothing, Node}

module _ {P C : Type 0} (key : List ℕ) where
  abbrev pub IsMet : TableNodeOf P C → Meeting C → Type 0
  IsMet n Other = Begins n.prefix key → ⊥
  IsMet n Leaf = Begins n.prefix key × (length n.prefix ≡ 7)
  IsMet n Nothing =
      Begins n.prefix key × (length n.prefix < 7) × (lookup n.children (next_byte n.prefix key) ≡ None)
  IsMet n (Node c) =
      Begins n.prefix key × (length n.prefix < 7)
      × (lookup n.children (next_byte n.prefix key) ≡ Some (children.Node c))

-- the same, where what was met is borrowed
abbrev pub met_at : {C : Type 0} → Meeting (Bor C) → Meeting C
met_at Other = Other
met_at Leaf = Leaf
met_at Nothing = Nothing
met_at (Node c) = Node c.now
