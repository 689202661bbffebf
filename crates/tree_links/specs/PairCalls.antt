-- What the calls for one pair do to the table that is seen, where the pair is alone in its leaf.
use Rattle.std.specs.Prelude.{◌≡◌, ◌≢◌, ℕ, ◌+◌, ◌<◌, ◌++◌, List, [], ◌∷◌, length, Some, None}
use Rattle.spec_map.specs.Map.{lookup, put, without}
use Rattle.node_base.specs.Form.{Fits}
use Rattle.spec_node.specs.Key.{Begins}
use Rattle.spec_node.specs.TableNode.{TableNode}
use Rattle.node_table.specs.Table.{NodeTable, node_at}
use Rattle.spec_node.specs.declared.child.Child.TheVariants.{Node}
use Rattle.tree_links.specs.SeenTable.{leaf_of}

module _ {P : Type 0} where
  -- the inner node at `parent` has room, and nothing under this byte, which the key has next
  pub record IsOpenFor (s : NodeTable P) (parent byte : ℕ) (key : List ℕ) : Type 0 where
    pub node : TableNode P
    pub here : node_at s parent ≡ Some node
    pub inner : length node.prefix < 7
    pub begins : Begins (node.prefix ++ byte ∷ []) key
    pub absent : lookup node.children byte ≡ None
    pub room : Fits node.form (length node.children + 1)

  -- that node has the leaf of the pair there now
  pub record GetsLeaf (s t : NodeTable P) (parent byte leaf : ℕ) (key : List ℕ) (payload : P) : Type 0 where
    pub node : TableNode P
    pub here : node_at s parent ≡ Some node
    pub fresh : node_at s leaf ≡ None
    pub there : node_at t parent ≡ Some (record node { children = put node.children byte (Node leaf) })
    pub is : node_at t leaf ≡ Some (leaf_of key payload)
    pub keeps : (o : ℕ) (m : TableNode P) → o ≢ parent → node_at s o ≡ Some m → node_at t o ≡ Some m

  -- the inner node at `parent` has the node at i under this byte
  pub record HasBelow (s : NodeTable P) (parent byte i : ℕ) : Type 0 where
    pub node : TableNode P
    pub here : node_at s parent ≡ Some node
    pub inner : length node.prefix < 7
    pub found : lookup node.children byte ≡ Some (Node i)

  -- that is the leaf of one pair, which has these bytes and this one first
  pub record HasLeaf (s : NodeTable P) (parent byte i : ℕ) : Type 0 where
    pub below : HasBelow s parent byte i
    pub key : List ℕ
    pub payload : P
    pub full : length key ≡ 8
    pub begins : Begins (below.node.prefix ++ byte ∷ []) key
    pub is : node_at s i ≡ Some (leaf_of key payload)

  -- that is the leaf of this key's pair alone
  pub record HasPair (s : NodeTable P) (parent byte leaf : ℕ) (key : List ℕ) : Type 0 where
    pub below : HasBelow s parent byte leaf
    pub payload : P
    pub is : node_at s leaf ≡ Some (leaf_of key payload)

  -- the leaf's payload is replaced
  pub record ChangesLeaf (s t : NodeTable P) (leaf : ℕ) (key : List ℕ) (before after : P) : Type 0 where
    pub was : node_at s leaf ≡ Some (leaf_of key before)
    pub is : node_at t leaf ≡ Some (leaf_of key after)
    pub others : (o : ℕ) → o ≢ leaf → node_at t o ≡ node_at s o

  -- the node at `parent` loses a leaf of one pair
  pub record LosesLeaf (s t : NodeTable P) (parent byte leaf : ℕ) (payload : P) : Type 0 where
    pub node : TableNode P
    pub key : List ℕ
    pub here : node_at s parent ≡ Some node
    pub was : node_at s leaf ≡ Some (leaf_of key payload)
    pub there : node_at t parent ≡ Some (record node { children = without node.children byte })
    pub keeps : (o : ℕ) (m : TableNode P) → o ≢ parent → o ≢ leaf → node_at s o ≡ Some m → node_at t o ≡ Some m
