-- A table whose nodes may have a pair in the place of a child, where the pair is alone in its leaf, and the table of nodes
-- that it is seen as, in which that leaf has a place of its own.
use Rattle.std.specs.Prelude.{ℕ, zero, suc, ◌+◌, ◌*◌, List, [], ◌∷◌, ◌++◌, map, take, Option, Some, None, slice_index_or}
use Rattle.std.specs.Option.{option_map}
use Rattle.spec_map.specs.Map.{lookup}
use Rattle.node_base.specs.declared.base_node.NodeType.TheVariants.{N4}
use Rattle.spec_node.specs.TableNode.{TableNode, Child}
use Rattle.node_table.specs.Table.{NodeTable}
use Rattle.spec_node.specs.declared.child.Child.TheVariants as children
use Rattle.tree_links.specs.LinkNode.{LinkNode}
use Rattle.tree_links.specs.declared.link.Link.{Link}
use Rattle.tree_links.specs.declared.link.Link.TheVariants.{Payload, Slot, Pair}

-- the node or nothing in each slot
abbrev pub LinkTable : Type 0 → Type 0
LinkTable P = List (Option (LinkNode P))

-- the slots of a slab, each node as what it has
abbrev pub links_of : {N P : Type 0} → (N → LinkNode P) → List (Option N) → LinkTable P
links_of node slots = map (option_map node) slots

-- Each slot is seen as so many: its own, and one for each byte. Named so that nothing counts them down.
unfoldable pub bytes : ℕ
bytes = 256

abbrev pub width : ℕ
width = suc bytes

-- the numbers under which the node in a slot, and the leaf of a pair in that node, are seen
abbrev pub name_of : ℕ → ℕ
name_of i = i * width

abbrev pub name_under : ℕ → ℕ → ℕ
name_under i b = i * width + suc b

-- the whole key of a pair below these bytes: its first byte is the first of them
abbrev pub key_under : List ℕ → ℕ → List ℕ → List ℕ
key_under p b rest = take 1 (p ++ b ∷ []) ++ rest

module _ {P : Type 0} where
  abbrev pub link_at : LinkTable P → ℕ → Option (LinkNode P)
  link_at t i = slice_index_or t i None

  -- the leaf of one pair
  abbrev pub leaf_of : List ℕ → P → TableNode P
  leaf_of key v =
      record { form = N4; prefix = take 7 key; children = (slice_index_or key 7 0, children.Payload v) ∷ [] }

  abbrev pub seen_link : ℕ → ℕ → Link P → Child P
  seen_link i b (Payload v) = children.Payload v
  seen_link i b (Slot j) = children.Node (name_of j)
  seen_link i b (Pair rest v) = children.Node (name_under i b)

  abbrev pub seen_links : ℕ → List (ℕ × Link P) → List (ℕ × Child P)
  seen_links i [] = []
  seen_links i (e ∷ es) = (e.0, seen_link i e.0 e.1) ∷ seen_links i es

  abbrev pub seen_node : ℕ → LinkNode P → TableNode P
  seen_node i n = record { form = n.form; prefix = n.prefix; children = seen_links i n.links }

  -- the leaf of the pair under a byte, if there is one
  abbrev pub pair_at : List ℕ → ℕ → Option (Link P) → Option (TableNode P)
  pair_at p b None = None
  pair_at p b (Some (Payload v)) = None
  pair_at p b (Some (Slot j)) = None
  pair_at p b (Some (Pair rest v)) = Some (leaf_of (key_under p b rest) v)

  abbrev pub pair_in : Option (LinkNode P) → ℕ → Option (TableNode P)
  pair_in None b = None
  pair_in (Some n) b = pair_at n.prefix b (lookup n.links b)

  abbrev pub pairs_from : Option (LinkNode P) → ℕ → ℕ → NodeTable P
  pairs_from x b zero = []
  pairs_from x b (suc k) = pair_in x b ∷ pairs_from x (b + 1) k

  abbrev pub seen_from : ℕ → LinkTable P → NodeTable P
  seen_from i [] = []
  seen_from i (x ∷ t) = (option_map (λ n. seen_node i n) x ∷ pairs_from x 0 bytes) ++ seen_from (i + 1) t

  -- THE TABLE OF NODES that is seen
  abbrev pub seen_table : LinkTable P → NodeTable P
  seen_table t = seen_from 0 t
