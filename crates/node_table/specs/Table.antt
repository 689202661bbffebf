-- A tree in one table of nodes, whose children are payloads and slot numbers: which table is one, the pairs that it
-- stores, and its nodes.
use Rattle.std.specs.Prelude.{◌≡◌, ℕ, zero, suc, ◌≤◌, List, [], ◌∷◌, ◌++◌, length, Option, Some, None, slice_index_or}
use Rattle.spec_map.specs.Map.{Pairs, Rises}
use Rattle.spec_node.specs.Key.{low, Begins, AreBytes}
use Rattle.node_base.specs.declared.base_node.NodeType.{NodeType}
use Rattle.spec_node.specs.TableNode.{TableNode, Child}
use Rattle.spec_node.specs.declared.child.Child.TheVariants.{Payload, Node}

-- the node or nothing in each slot
abbrev pub NodeTable : Type 0 → Type 0
NodeTable P = List (Option (TableNode P))

-- what a caller sees of a node: the bytes that lead to it (its parent's prefix and the byte), its prefix, its form, and
-- how many children it has
pub record NodeInfo : Type 0 where
  pub edge : List ℕ
  pub prefix : List ℕ
  pub form : NodeType
  pub count : ℕ

module _ {P : Type 0} where
  abbrev pub node_at : NodeTable P → ℕ → Option (TableNode P)
  node_at s slot = slice_index_or s slot None

  -- the children of a node have different bytes, in ascending order, and the prefix leaves a byte at least
  pub record IsSound (n : TableNode P) : Type 0 where
    pub ordered : Rises 0 256 n.children
    pub bytes : AreBytes n.prefix
    pub short : length n.prefix ≤ 7

  -- the pairs under a byte, where `below` has those of a slot
  abbrev pub pairs_under : (ℕ → Pairs P) → List ℕ → ℕ → Child P → Pairs P
  pairs_under below p b (Payload v) = (low (p ++ b ∷ []), v) ∷ []
  pairs_under below p b (Node slot) = below slot

  abbrev pub pairs_of : (ℕ → Pairs P) → List ℕ → List (ℕ × Child P) → Pairs P
  pairs_of below p [] = []
  pairs_of below p (e ∷ es) = pairs_under below p e.0 e.1 ++ pairs_of below p es

  abbrev pub pairs_in : (ℕ → Pairs P) → Option (TableNode P) → Pairs P
  pairs_in below None = []
  pairs_in below (Some n) = pairs_of below n.prefix n.children

  -- the pairs of the subtree in a slot, of so many levels at most
  abbrev pub pairs_at : NodeTable P → ℕ → ℕ → Pairs P
  pairs_at s zero slot = []
  pairs_at s (suc levels) slot = pairs_in (λ j. pairs_at s levels j) (node_at s slot)

  abbrev pub node_info : List ℕ → TableNode P → NodeInfo
  node_info edge n =
      record { edge = edge; prefix = n.prefix; form = n.form; count = length n.children }

  -- the nodes under a byte, where `below` has those of a slot with the bytes that lead to it
  abbrev pub nodes_under : (List ℕ → ℕ → List NodeInfo) → List ℕ → ℕ → Child P → List NodeInfo
  nodes_under below p b (Payload v) = []
  nodes_under below p b (Node slot) = below (p ++ b ∷ []) slot

  abbrev pub nodes_of : (List ℕ → ℕ → List NodeInfo) → List ℕ → List (ℕ × Child P) → List NodeInfo
  nodes_of below p [] = []
  nodes_of below p (e ∷ es) = nodes_under below p e.0 e.1 ++ nodes_of below p es

  abbrev pub nodes_in : (List ℕ → ℕ → List NodeInfo) → List ℕ → Option (TableNode P) → List NodeInfo
  nodes_in below edge None = []
  nodes_in below edge (Some n) = node_info edge n ∷ nodes_of below n.prefix n.children

  -- the nodes of the subtree in a slot to which these bytes lead, from above, children by their bytes
  abbrev pub nodes_at : NodeTable P → ℕ → List ℕ → ℕ → List NodeInfo
  nodes_at s zero edge slot = []
  nodes_at s (suc levels) edge slot = nodes_in (λ e j. nodes_at s levels e j) edge (node_at s slot)

  -- payloads are children of nodes with seven bytes, and each node's prefix begins with its parent's and the byte
  abbrev pub IsChild : (List ℕ → ℕ → Type 0) → List ℕ → ℕ → Child P → Type 0
  IsChild below p b (Payload v) = length p ≡ 7
  IsChild below p b (Node slot) = below (p ++ b ∷ []) slot

  abbrev pub AreChildren : (List ℕ → ℕ → Type 0) → List ℕ → List (ℕ × Child P) → Type 0
  AreChildren below p [] = Unit {0}
  AreChildren below p (e ∷ es) = IsChild below p e.0 e.1 × AreChildren below p es

  -- the slot holds a node whose prefix begins with these bytes and whose children are in turn nodes or payloads
  pub record IsNodeIn (below : List ℕ → ℕ → Type 0) (s : NodeTable P) (q : List ℕ) (slot : ℕ)
      : Type 0 where
    pub node : TableNode P
    pub here : node_at s slot ≡ Some node
    pub begins : Begins q node.prefix
    pub sound : IsSound node
    pub children : AreChildren below node.prefix node.children

  -- the slot holds a subtree of so many levels at most, below these bytes
  abbrev pub IsTree : NodeTable P → ℕ → List ℕ → ℕ → Type 0
  IsTree s zero q slot = ⊥
  IsTree s (suc levels) q slot = IsNodeIn (λ p j. IsTree s levels p j) s q slot

  -- with some bytes above it
  pub record IsSubtree (s : NodeTable P) (levels slot : ℕ) : Type 0 where
    pub above : List ℕ
    pub tree : IsTree s levels above slot
