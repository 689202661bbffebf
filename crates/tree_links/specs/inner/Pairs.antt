-- How many pairs are in the places of children. A slot is kept free for each of them, since a leaf's second pair may not
-- need memory.
use Rattle.std.specs.Prelude.{ℕ, ◌+◌, List, [], ◌∷◌, Option, Some, None}
use Rattle.tree_links.specs.LinkNode.{LinkNode}
use Rattle.tree_links.specs.SeenTable.{LinkTable}
use Rattle.tree_links.specs.declared.link.Link.{Link}
use Rattle.tree_links.specs.declared.link.Link.TheVariants.{Payload, Slot, Pair}

module _ {P : Type 0} where
  abbrev pub pairs_in_link : Link P → ℕ
  pairs_in_link (Payload v) = 0
  pairs_in_link (Slot j) = 0
  pairs_in_link (Pair rest v) = 1

  abbrev pub pairs_in_links : List (ℕ × Link P) → ℕ
  pairs_in_links [] = 0
  pairs_in_links (e ∷ es) = pairs_in_link e.1 + pairs_in_links es

  abbrev pub pairs_in_node : Option (LinkNode P) → ℕ
  pairs_in_node None = 0
  pairs_in_node (Some n) = pairs_in_links n.links

  abbrev pub pairs_in_table : LinkTable P → ℕ
  pairs_in_table [] = 0
  pairs_in_table (x ∷ t) = pairs_in_node x + pairs_in_table t
