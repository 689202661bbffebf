-- What becomes of nodes that all go into another table, where the links to slots get the slots' new numbers.
use Rattle.std.specs.Prelude.{◌≡◌, ◌⊎◌, ℕ, ◌<◌, List, length, Option, Some, None, slice_index}
use Rattle.node_table.specs.inner.Kinds.{mapped}
use Rattle.tree_links.specs.LinkNode.{LinkNode}
use Rattle.tree_links.specs.SeenTable.{LinkTable, link_at}
use Rattle.tree_links.specs.declared.link.Link.{Link}
use Rattle.tree_links.specs.declared.link.Link.TheVariants.{Payload, Slot, Pair}
use Rattle.tree_links.specs.inner.Slots.{SameSlots}

module _ {P : Type 0} where
  -- the node in slot i of t, if there is one, goes into slot j of u, where there was none; then the tables are v and w
  pub record GoesOver (t v u w : LinkTable P) (i j : ℕ) : Type 0 where
    pub gone : link_at v i ≡ None
    pub others : SameSlots t v i
    pub keeps : (k : ℕ) (n : LinkNode P) → link_at u k ≡ Some n → link_at w k ≡ Some n
    pub there : (n : LinkNode P) → link_at t i ≡ Some n → link_at w j ≡ Some n

  module _ (slots : List ℕ) where
    -- each node of t is in u, in the slot that the list has for it
    abbrev pub GoesAllOver : LinkTable P → LinkTable P → Type 0
    GoesAllOver t u = (i : ℕ) (n : LinkNode P) → link_at t i ≡ Some n → link_at u (slice_index slots i) ≡ Some n

    -- a link, where slots have these numbers
    abbrev pub redirected : Link P → Link P
    redirected (Payload v) = Payload v
    redirected (Slot j) = Slot (slice_index slots j)
    redirected (Pair rest v) = Pair rest v

    -- a leaf, which has no links to slots, or an inner node with such links
    abbrev pub Redirects : LinkNode P → LinkNode P → Type 0
    Redirects n m =
        ((length n.prefix ≡ 7) × (m ≡ n))
        ⊎ ((length n.prefix < 7) × (m ≡ record n { links = mapped redirected n.links }))

    -- the same in each slot
    abbrev pub RedirectsIn : Option (LinkNode P) → Option (LinkNode P) → Type 0
    RedirectsIn None x = x ≡ None
    RedirectsIn (Some n) x = (m : LinkNode P) × (x ≡ Some m) × Redirects n m

    abbrev pub RedirectsEach : LinkTable P → LinkTable P → Type 0
    RedirectsEach t u = (k : ℕ) → RedirectsIn (link_at t k) (link_at u k)
