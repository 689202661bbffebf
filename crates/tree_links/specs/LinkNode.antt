-- What a contract sees of a node whose children may be pairs.
use Rattle.std.specs.Prelude.{◌≡◌, ℕ, ◌<◌, List, length, Option, Some, None}
use Rattle.spec_map.specs.Map.{lookup, put, without}
use Rattle.node_base.specs.declared.base_node.NodeType.{NodeType}
use Rattle.spec_node.specs.Key.{Begins, next_byte}
use Rattle.tree_links.specs.declared.link.Link.{Link}
use Rattle.tree_links.specs.declared.link.Link.TheVariants.{Payload, Slot, Pair}
use Rattle.tree_links.specs.declared.link.LinkRef.{LinkRef}
use Rattle.tree_links.specs.declared.link.LinkRef.TheVariants as borrowed
use Rattle.tree_links.specs.declared.link.LinkMeeting.{LinkMeeting}
use Rattle.tree_links.specs.declared.link.LinkMeeting.TheVariants as meetings

-- its form, the bytes from the root down to it, and what it has under each byte, ascending
pub record LinkNode (P : Type 0) : Type 0 where
  pub form : NodeType
  pub prefix : List ℕ
  pub links : List (ℕ × Link P)

module _ {P : Type 0} where
  -- a link that a node with these bytes may have
  abbrev pub MayLink : List ℕ → Link P → Type 0
  MayLink p (Payload v) = length p ≡ 7
  MayLink p (Slot j) = length p < 7
  MayLink p (Pair rest v) = length p < 7

  -- the link that was looked at
  abbrev pub looked_at : LinkRef P → Link P
  looked_at (borrowed.Payload v) = Payload v.now
  looked_at (borrowed.Slot j) = Slot j
  looked_at (borrowed.Pair rest v) = Pair rest.now v.now

  abbrev pub seen : Option (LinkRef P) → Option (Link P)
  seen None = None
  seen (Some c) = Some (looked_at c)

  -- a node with one link more, or another one, and with one less
  abbrev pub with_link : LinkNode P → ℕ → Link P → LinkNode P
  with_link n byte c = record n { links = put n.links byte c }

  abbrev pub without_link : LinkNode P → ℕ → LinkNode P
  without_link n byte = record n { links = without n.links byte }

  -- what a key meets at a node
  abbrev pub IsMet : List ℕ → LinkNode P → LinkMeeting P → Type 0
  IsMet key n meetings.Other = Begins n.prefix key → ⊥
  IsMet key n meetings.Leaf = Begins n.prefix key × (length n.prefix ≡ 7)
  IsMet key n meetings.Nothing =
      Begins n.prefix key × (length n.prefix < 7) × (lookup n.links (next_byte n.prefix key) ≡ None)
  IsMet key n (meetings.Slot j) =
      Begins n.prefix key × (length n.prefix < 7)
      × (lookup n.links (next_byte n.prefix key) ≡ Some (Slot j))
  IsMet key n (meetings.Pair rest v) =
      Begins n.prefix key × (length n.prefix < 7)
      × (lookup n.links (next_byte n.prefix key) ≡ Some (Pair rest.now v.now))
