-- What is done to the links of the node in one slot.
use Rattle.std.specs.Prelude.{◌≡◌, ◌≢◌, ℕ, ◌+◌, ◌<◌, [], ◌∷◌, length, Option, Some, None, IsSome}
use Rattle.std.specs.Global.{Vec}
use Rattle.std.specs.Option.{option_map}
use Rattle.spec_map.specs.Map.{lookup, Rises}
use Rattle.node_base.specs.Form.{Fits, next_form, smaller_form}
use Rattle.node_base.specs.declared.base_node.NodeType.TheVariants.{N48}
use Rattle.node_rows.specs.Spare.{IsSpareFor}
use Rattle.tree_links.specs.LinkNode.{LinkNode, MayLink, with_link, without_link}
use Rattle.tree_links.specs.SeenTable.{LinkTable, link_at}
use Rattle.tree_links.specs.declared.link.Link.{Link}
use Rattle.tree_links.specs.declared.link.Link.TheVariants.{Payload}
use Rattle.tree_links.specs.declared.place.Place.{Place}

module _ {P : Type 0} where
  -- every slot but this one has what it had
  abbrev pub SameSlots : LinkTable P → LinkTable P → ℕ → Type 0
  SameSlots t u i = (k : ℕ) → k ≢ i → link_at u k ≡ link_at t k

  -- the node in the slot has something under the byte, and may have this link
  pub record HasLink (t : LinkTable P) (i byte : ℕ) (c : Link P) : Type 0 where
    pub node : LinkNode P
    pub here : link_at t i ≡ Some node
    pub present : IsSome (lookup node.links byte)
    pub kind : MayLink node.prefix c

  -- it has this link in place of the previous one
  pub record ExchangesLink (t u : LinkTable P) (i byte : ℕ) (before after : Link P) : Type 0 where
    pub node : LinkNode P
    pub here : link_at t i ≡ Some node
    pub ordered : Rises 0 256 node.links
    pub found : lookup node.links byte ≡ Some before
    pub there : link_at u i ≡ Some (with_link node byte after)
    pub others : SameSlots t u i

  -- the node in the slot has room, and nothing under the byte, and may have this link
  pub record LacksLink (t : LinkTable P) (i byte : ℕ) (c : Link P) : Type 0 where
    pub node : LinkNode P
    pub here : link_at t i ≡ Some node
    pub absent : lookup node.links byte ≡ None
    pub room : Fits node.form (length node.links + 1)
    pub kind : MayLink node.prefix c

  -- there is a spare row for one link more, where the node in the slot needs one
  abbrev pub HasSpareAt : LinkTable P → ℕ → Option (Vec (Place P)) → Type 0
  HasSpareAt t i spare = (n : LinkNode P) → link_at t i ≡ Some n
      → n.form ≡ N48 → length n.prefix < 7 → IsSpareFor (length n.links) spare

  -- it has this link more
  pub record PutsLink (t u : LinkTable P) (i byte : ℕ) (c : Link P) : Type 0 where
    pub node : LinkNode P
    pub here : link_at t i ≡ Some node
    pub ordered : Rises 0 256 node.links
    pub absent : lookup node.links byte ≡ None
    pub there : link_at u i ≡ Some (with_link node byte c)
    pub others : SameSlots t u i

  -- the node in the slot has something under the byte
  pub record IsPresentAt (t : LinkTable P) (i byte : ℕ) : Type 0 where
    pub node : LinkNode P
    pub here : link_at t i ≡ Some node
    pub present : IsSome (lookup node.links byte)

  -- it has nothing there any more
  pub record TakesLink (t u : LinkTable P) (i byte : ℕ) (before : Link P) : Type 0 where
    pub node : LinkNode P
    pub here : link_at t i ≡ Some node
    pub ordered : Rises 0 256 node.links
    pub found : lookup node.links byte ≡ Some before
    pub there : link_at u i ≡ Some (without_link node byte)
    pub others : SameSlots t u i

  -- a leaf with one payload
  pub record HasOnePayload (n : LinkNode P) : Type 0 where
    pub byte : ℕ
    pub payload : P
    pub is : n.links ≡ (byte, Payload payload) ∷ []

  -- the node in the slot is in its next form
  pub record GrowsAt (t u : LinkTable P) (i : ℕ) : Type 0 where
    pub node : LinkNode P
    pub here : link_at t i ≡ Some node
    pub there : link_at u i ≡ Some (record node { form = next_form node.form })
    pub room : Fits (next_form node.form) (length node.links + 1)
    pub others : SameSlots t u i

  -- the node in the slot fits into its smaller form
  pub record IsFewAt (t : LinkTable P) (i : ℕ) : Type 0 where
    pub node : LinkNode P
    pub here : link_at t i ≡ Some node
    pub few : Fits (smaller_form node.form) (length node.links)

  -- it is in that form
  pub record ShrinksAt (t u : LinkTable P) (i : ℕ) : Type 0 where
    pub node : LinkNode P
    pub here : link_at t i ≡ Some node
    pub there : link_at u i ≡ Some (record node { form = smaller_form node.form })
    pub others : SameSlots t u i

  -- the slot has a leaf
  pub record IsLeafAt (t : LinkTable P) (i : ℕ) : Type 0 where
    pub node : LinkNode P
    pub here : link_at t i ≡ Some node
    pub seven : length node.prefix ≡ 7

  -- it has this payload under the byte, in place of the previous one or, where it had room, of none
  pub record SetsAt (t u : LinkTable P) (i byte : ℕ) (payload : P) (before : Option P) : Type 0 where
    pub node : LinkNode P
    pub here : link_at t i ≡ Some node
    pub ordered : Rises 0 256 node.links
    pub was : lookup node.links byte ≡ option_map (λ v. Payload v) before
    pub room : before ≡ None → Fits node.form (length node.links + 1)
    pub there : link_at u i ≡ Some (with_link node byte (Payload payload))
    pub others : SameSlots t u i

  -- it has nothing under the byte
  pub record IsAbsentAt (t : LinkTable P) (i byte : ℕ) : Type 0 where
    pub node : LinkNode P
    pub here : link_at t i ≡ Some node
    pub absent : lookup node.links byte ≡ None

  -- and no room
  pub record IsFullAt (t : LinkTable P) (i byte : ℕ) : Type 0 where
    pub node : LinkNode P
    pub here : link_at t i ≡ Some node
    pub absent : lookup node.links byte ≡ None
    pub full : Fits node.form (length node.links + 1) → ⊥
