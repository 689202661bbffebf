-- The pair at a side of a list. Only private contracts cite this.
use Rattle.std.specs.Prelude.{◌≡◌, ◌≤◌, ℕ, List, Option, Some}
use Rattle.spec_map.specs.Near.{first_of, last_of}
use Rattle.spec_node.specs.Key.{Begins, next_byte}
use Rattle.tree_edit.specs.declared.ends.Side.{Side}
use Rattle.tree_edit.specs.declared.ends.Side.TheVariants.{First, Last}
use Rattle.tree_links.specs.LinkNode.{LinkNode}
use Rattle.tree_links.specs.declared.link.Link.{Link}

abbrev pub at_side : {V : Type 0} → Side → List (ℕ × V) → Option (ℕ × V)
at_side First es = first_of es
at_side Last es = last_of es

-- no link of the node is under a byte below the key's, if the key begins as the node does
abbrev pub StartsFrom : {P : Type 0} → List ℕ → LinkNode P → Type 0
StartsFrom {P} key n = Begins n.prefix key → (byte : ℕ) (c : Link P) → first_of n.links ≡ Some (byte, c) → next_byte n.prefix key ≤ byte
