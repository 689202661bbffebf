-- A node whose prefix a key leaves gets a node above it, which has the leaf of the key's pair beside it.
use Rattle.std.specs.Prelude.{◌≡◌, ◌≢◌, ℕ, List, [], ◌∷◌, take, Some, None, slice_index_or}
use Rattle.spec_map.specs.Map.{lookup, put}
use Rattle.node_base.specs.declared.base_node.NodeType.TheVariants.{N4}
use Rattle.spec_node.specs.Key.{IsFirstDifference}
use Rattle.spec_node.specs.TableNode.{TableNode}
use Rattle.node_table.specs.Table.{NodeTable, node_at}
use Rattle.spec_node.specs.declared.child.Child.TheVariants.{Node}
use Rattle.tree_links.specs.SeenTable.{leaf_of}

module _ {P : Type 0} where
  -- there is a node whose prefix the key leaves at this byte
  pub record IsParted (s : NodeTable P) (i : ℕ) (key : List ℕ) (at : ℕ) : Type 0 where
    pub node : TableNode P
    pub here : node_at s i ≡ Some node
    pub differs : IsFirstDifference node.prefix key at

  -- the new node: it has the one with this prefix, and the leaf
  abbrev pub upper_of : List ℕ → List ℕ → ℕ → ℕ → ℕ → TableNode P
  upper_of prefix key at lower leaf = record {
    form = N4;
    prefix = take at key;
    children = put ((slice_index_or prefix at 0, Node lower) ∷ []) (slice_index_or key at 0) (Node leaf);
  }

  -- In place of the node at `old` the one at `parent` has the new node, under this byte. That and the leaf are where there
  -- was no node.
  pub record SplitsChild (s t : NodeTable P) (parent byte old upper : ℕ) (key : List ℕ) (at : ℕ) (payload : P) : Type 0 where
    pub node : TableNode P
    pub child : TableNode P
    pub lower : ℕ
    pub leaf : ℕ
    pub here : node_at s parent ≡ Some node
    pub found : lookup node.children byte ≡ Some (Node old)
    pub was : node_at s old ≡ Some child
    pub differs : IsFirstDifference child.prefix key at
    pub upper_free : node_at s upper ≡ None
    pub leaf_free : node_at s leaf ≡ None
    pub there : node_at t parent ≡ Some (record node { children = put node.children byte (Node upper) })
    pub upper_is : node_at t upper ≡ Some (upper_of child.prefix key at lower leaf)
    pub lower_is : node_at t lower ≡ Some child
    pub leaf_is : node_at t leaf ≡ Some (leaf_of key payload)
    pub keeps : (o : ℕ) (m : TableNode P) → o ≢ parent → o ≢ old → node_at s o ≡ Some m → node_at t o ≡ Some m
